-- What operations cost at most, and a choice that has enough for each.
use Rattle.std.proofs.Common.{◌≡◌, ℕ, zero, suc, ◌+◌, ◌-◌, ◌/◌, ◌<◌, ◌≤◌, ◌==◌, ◌&&◌, nat_le, Bool, true, false, if◌then◌else◌, List}
use Rattle.std.proofs.Common.{◌∷◌, [], ◌++◌, refl, sym, ◌∙◌, subst, arith, Some, None}
use Rattle.std.proofs.lemmas.Bool.Decides.{nat_tests}
use Rattle.spec_exchange.specs.Table.{put}
use Rattle.spec_exchange.specs.Operations.{Op, OpWrite, OpRead, NoSlot, charge, keeps_limits, weight}
use Rattle.spec_exchange.specs.Client.{Client, create_for, goes_itself, lacks_slot, may_push, needs_slot, settle_no_slot}
use Rattle.spec_exchange.specs.Schedules.{Choice, choose, cost, least_free}

-- ---- what an operation costs

weight_low : (op : Op) → keeps_limits op ≡ true → weight op ≤ 1048577
weight_low (OpWrite create at bytes) k = grind (arith, nat_tests)
weight_low (OpRead create at size) k = grind (arith, nat_tests)
weight_low _ k = omega arith

either : (b : Bool) (x y n : ℕ) → x ≤ n → y ≤ n → (if b then x else y) ≤ n
either true x y n p q = p
either false x y n p q = q

charge_low : (n : ℕ) → n ≤ 1048577 → charge n ≤ 17
charge_low n l = either (n == 0) 1 ((n - 1) / 65536 + 1) 17 (omega arith) (omega (arith, l))

pub cost_low : (c : Client) (g : ℕ) → keeps_limits (c.op g) ≡ true → cost c g ≤ 17
cost_low c g k = either (goes_itself c g) (charge (weight (c.op g))) 1 17
    (charge_low (weight (c.op g)) (weight_low (c.op g) k)) (omega arith)

-- ---- a lock that settles for want of a slot leaves what the others cost

by_test : (b : Bool) (d e : Client) (x : ℕ) → cost d x ≡ cost e x → cost (if b then d else e) x ≡ cost e x
by_test true d e x h = h
by_test false d e x h = refl

cost_settled : (c : Client) (k g x : ℕ) → cost (settle_no_slot c k g) x ≡ cost c x
cost_settled c k g x = by_test (lacks_slot c k g) (record c { outcome = put c.outcome g (NoSlot (create_for c g)) }) c x refl

-- ---- the choice

is_paid : (x n : ℕ) → x ≤ n → nat_le x n ≡ true
is_paid x n l = grind arith

paid_too : (x m n : ℕ) → x ≤ 17 → 17 ≤ m → 17 ≤ n → nat_le x m ≡ nat_le x n
paid_too x m n l a b = is_paid x m (omega arith) ∙ sym (is_paid x n (omega arith))

pub same_choice : (count : ℕ) (c : Client) (k m n from : ℕ) (slotless : List ℕ) → 17 ≤ m → 17 ≤ n
    → ((g : ℕ) → from ≤ g → g < from + count → cost c g ≤ 17) → choose c k m slotless from count ≡ choose c k n slotless from count
unfolding choose
same_choice zero c k m n g slotless a b h = refl
same_choice (suc i) c k m n g slotless a b h =
    let p : nat_le (cost c g) m ≡ nat_le (cost c g) n = paid_too (cost c g) m n (h g (omega arith) (omega arith)) a b in
    let rest : choose c k m slotless (g + 1) i ≡ choose c k n slotless (g + 1) i = same_choice i c k m n (g + 1) slotless a b
    (λ x l q. h x (omega arith) (omega arith)) in
    let behind : choose (settle_no_slot c k g) k m (slotless ++ g ∷ []) (g + 1) i
    ≡ choose (settle_no_slot c k g) k n (slotless ++ g ∷ []) (g + 1) i = same_choice i (settle_no_slot c k g) k m n (g + 1)
    (slotless ++ g ∷ []) a b
    (λ x l q. subst (λ z. z ≤ 17) (sym (cost_settled c k g x)) (h x (omega arith) (omega arith))) in
    λ t. elim (may_push c k g && p t) as (λ x. Choice) [
      | false ↦ rest t
      | true ↦
          elim (goes_itself c g && needs_slot c g) as (λ x. Choice) [
            | false ↦ record { slotless = slotless; pick = Some (record { op = g; slot = 0 }) }
            | true ↦
                elim (least_free c (create_for c g) 1 64) as (λ x. Choice) [
                  | Some j ↦ record { slotless = slotless; pick = Some (record { op = g; slot = j }) }
                  | None ↦ behind t
                ]
          ]
    ]
