-- What a push finds where nothing is outstanding and something is unsettled: the least such operation goes out, or a lock
-- that finds no slot is settled; where nothing goes out, all is settled.
use Rattle.std.proofs.lemmas.Bool.{eqb-false}
use Rattle.std.proofs.Common.{eqb-true, ◌≡◌, ◌≢◌, ℕ, ◌+◌, ◌-◌, ◌≤◌, ◌<◌, ◌==◌, nat_lt, nat_le, Bool, true, false, not}
use Rattle.std.proofs.Common.{◌&&◌, ◌||◌, if◌then◌else◌, List, [], ◌∷◌, ◌++◌, refl, arith, sym, subst, ◌∙◌, ap, Option}
use Rattle.std.proofs.Common.{Some, None, is_none, zero, suc}
use Rattle.std.proofs.lemmas.Bool.Decides.{nat_tests}
use Rattle.spec_exchange.specs.Table.{put, is_at}
use Rattle.spec_exchange.specs.Operations.{Op, Outcome, NoSlot, is_unsettled, is_ok, is_create, is_lock, holds_up, weight, charge}
use Rattle.spec_exchange.specs.Client.{Client, create_for, may_push, is_taken, has_open, waits, goes_itself, needs_slot}
use Rattle.spec_exchange.specs.Client.{has_its_slot, is_free, has_free, lacks_slot, settle_no_slot, settle_no_slots}
use Rattle.spec_exchange.specs.ClientStep.{Pick}
use Rattle.spec_exchange.specs.Schedules.{Choice, choose, cost, least_free, paid, paid_on, purse}
use Rattle.law_server.proofs.tables.Logic.{either, both}
use Rattle.law_answers.proofs.completeness.Equations.{free_on, free_off, choose_on, choose_slot, choose_none, choose_off}

-- ---- slots

nothing_free : (c : Client) (create i n : ℕ) → least_free c create i n ≡ None → (j : ℕ) → i ≤ j → j < i + n → is_free c create j ≡ false
unfolding least_free
nothing_free c create i zero e j low high = absurd (omega (arith, low, high))
nothing_free c create i (suc n) e j low high =
    elim (is_free c create i) as (λ b. is_free c create i ≡ b → is_free c create j ≡ false) [
      | true ↦ λ f. absurd (some_none (sym (free_on c create i n f) ∙ e))
      | false ↦ λ f. elim (j == i) as (λ b. j == i ≡ b → is_free c create j ≡ false) [
        | true ↦ λ q. ap (λ x. is_free c create x) (eqb-true j i q) ∙ f
        | false ↦ λ q. let d = eqb-false j i q in nothing_free c create (i + 1) n (sym (free_off c create i n f) ∙ e) j
            (omega (arith, d, low)) (omega (arith, high))
      ] refl
    ] refl
  where
    some_none : Some i ≡ None → ⊥
    some_none q = absurd (cc)

none_free : (c : Client) (create n : ℕ) → ((j : ℕ) → 1 ≤ j → j ≤ n → is_free c create j ≡ false) → has_free c create n ≡ false
unfolding has_free
none_free c create zero f = refl
none_free c create (suc n) f = neither (is_free c create (n + 1)) (has_free c create n)
    (f (n + 1) (omega arith) (omega arith)) (none_free c create n (λ j a b. f j a (omega (arith, b))))
  where
    neither : (a b : Bool) → a ≡ false → b ≡ false → (a || b) ≡ false
    neither a b e f = grind arith

no_slot_there : (c : Client) (create : ℕ) → least_free c create 1 64 ≡ None → has_free c create 64 ≡ false
no_slot_there c create e = none_free c create 64 (λ j a b. nothing_free c create 1 64 e j a (omega (arith, b)))

slot_there : (c : Client) (create i n j : ℕ) → least_free c create i n ≡ Some j → is_free c create j ≡ true
unfolding least_free
slot_there c create i zero j e = absurd (cc)
slot_there c create i (suc n) j e =
    elim (is_free c create i) as (λ b. is_free c create i ≡ b → is_free c create j ≡ true) [
      | true ↦ λ f. ap (λ x. is_free c create x) (sym (same (sym (free_on c create i n f) ∙ e))) ∙ f
      | false ↦ λ f. slot_there c create (i + 1) n j (sym (free_off c create i n f) ∙ e)
    ] refl
  where
    same : Some i ≡ Some j → i ≡ j
    same q = cc

-- ---- credits

pub nothing_paid : (c : Client) (k n : ℕ) → ((g : ℕ) → c.outstanding_on g ≡ None) → paid_on c k n ≡ 0
unfolding paid_on
nothing_paid c k zero f = refl
nothing_paid c k (suc n) f = let e = nothing_paid c k n f in none_more (c.outstanding_on (n + 1)) (paid c (n + 1))
    (paid_on c k n) (f (n + 1)) e
  where
    none_more : (o : Option ℕ) (p r : ℕ) → o ≡ None → r ≡ 0 → (if is_at k o then p else 0) + r ≡ 0
    none_more o p r e z = grind arith

pub full_purse : (c : Client) (k : ℕ) → ((g : ℕ) → c.outstanding_on g ≡ None) → purse c k ≡ 512
full_purse c k f = ap (λ n. 512 - n) (nothing_paid c k c.taken f)

affordable : (c : Client) (g credits : ℕ) → charge (weight (c.op g)) ≤ 512 → credits ≡ 512 → nat_le (cost c g) credits ≡ true
affordable c g credits l e = either (λ n. nat_le n credits ≡ true) (goes_itself c g) (charge (weight (c.op g))) 1
    (λ _. grind (arith, nat_tests)) (λ _. grind (arith, nat_tests))

-- ---- nothing holds up the least unsettled operation

pub waits_off : (c : Client) (g n : ℕ) → n ≤ g → 0 < create_for c g → create_for c 0 ≡ 0
    → ((h : ℕ) → 0 < h → h < g → is_unsettled (c.outcome h) ≡ false) → waits c g n ≡ false
unfolding waits
waits_off c g zero l a z lower = refl
waits_off c g (suc n) l a z lower = let rest = waits_off c g n (omega (arith, l)) a z lower in by n refl rest
  where
    by : (m : ℕ) → n ≡ m → waits c g n ≡ false → (if (create_for c n == create_for c g) && holds_up (c.op n) (c.op g)
        then (if is_unsettled (c.outcome n) then true else waits c g n) else waits c g n) ≡ false
    by zero e rest = let d : create_for c n ≡ 0 = ap (λ x. create_for c x) e ∙ z in grind (arith, nat_tests)
    by (suc m) e rest = let s = lower n (omega (arith, e)) (omega (arith, l)) in grind arith

-- ---- the client in which the push chooses

pub record Calm (c : Client) (k : ℕ) : Type 0 where
  pub ready : c.ready k ≡ true
  pub idle : (g : ℕ) → c.outstanding_on g ≡ None
  pub creates : (g : ℕ) → 0 < g → g ≤ c.taken → 0 < create_for c g × (is_create (c.op g) ≡ false → create_for c g < g
      × is_create (c.op (create_for c g)) ≡ true)
  pub create_ok : (g : ℕ) → 0 < g → g ≤ c.taken → is_unsettled (c.outcome g) ≡ true → is_create (c.op g) ≡ false
      → is_unsettled (c.outcome (create_for c g)) ≡ false → is_ok (c.outcome (create_for c g)) ≡ true
  pub limits : (g : ℕ) → 0 < g → g ≤ c.taken → charge (weight (c.op g)) ≤ 512
  pub zeroth : create_for c 0 ≡ 0

pub may_go : (c : Client) (k g : ℕ) → Calm c k → 0 < g → g ≤ c.taken → is_unsettled (c.outcome g) ≡ true
    → ((h : ℕ) → 0 < h → h < g → is_unsettled (c.outcome h) ≡ false) → may_push c k g ≡ true
may_go c k g q low high pending lower =
    let w = waits_off c g g (omega arith) (q.creates g low high).0 q.zeroth lower in
    both (c.ready k) _ q.ready
    (both (is_taken c g) _ (both (nat_lt 0 g) _ (grind (arith, nat_tests)) (grind (arith, nat_tests)))
    (both (is_unsettled (c.outcome g)) _ pending
    (both (is_none (c.outstanding_on g)) _ (ap is_none (q.idle g)) (both (has_open c g) _ (has (is_create (c.op g)) refl) (ap not w)))))
  where
    has : (b : Bool) → is_create (c.op g) ≡ b → has_open c g ≡ true
    has true e = either_true (is_create (c.op g)) (is_ok (c.outcome (create_for c g))) e
      where
        either_true : (x y : Bool) → x ≡ true → (x || y) ≡ true
        either_true x y e = grind arith
    has false e =
        let p = q.creates g low high in or_true (is_create (c.op g)) (is_ok (c.outcome (create_for c g)))
        (q.create_ok g low high pending e (lower (create_for c g) p.0 (p.1 e).0))
      where
        or_true : (x y : Bool) → y ≡ true → (x || y) ≡ true
        or_true x y e = grind arith

-- ---- a lock without a slot is settled, and nothing else changes

pub no_slot_is : (c : Client) (k g : ℕ) → lacks_slot c k g ≡ true → settle_no_slot c k g ≡ record c {
  outcome = put c.outcome g (NoSlot (create_for c g));
}
no_slot_is c k g e = lacking (lacks_slot c k g) e
  where
    lacking : (b : Bool) → b ≡ true → (if b then record c { outcome = put c.outcome g (NoSlot (create_for c g)) } else
        c) ≡ record c { outcome = put c.outcome g (NoSlot (create_for c g)) }
    lacking true e = refl
    lacking false e = absurd (cc)

lock_creates : (op : Op) → is_lock op ≡ true → is_create op ≡ false
lock_creates op e = grind arith

pub no_slot_outcome : (f : ℕ → Outcome) (g h create : ℕ) → is_unsettled (f h) ≡ false → is_unsettled (put f g (NoSlot create) h) ≡ false
no_slot_outcome f g h create e = grind arith

pub settled_slotless : (f : ℕ → Outcome) (g create : ℕ) → is_unsettled (put f g (NoSlot create) g) ≡ false
settled_slotless f g create = grind arith

still_open : (f : ℕ → Outcome) (g h create : ℕ) → is_unsettled (put f g (NoSlot create) h) ≡ true → is_unsettled (f h) ≡ true × h ≢ g
still_open f g h create e = (grind arith, grind arith)

other_outcome : (f : ℕ → Outcome) (g h create : ℕ) → h ≢ g → put f g (NoSlot create) h ≡ f h
other_outcome f g h create n = grind arith

calm_slotless : (c : Client) (k g : ℕ) → is_lock (c.op g) ≡ true → Calm c k → Calm (record c {
  outcome = put c.outcome g (NoSlot (create_for c g));
}) k
calm_slotless c k g lock q =
    record {
      ready = q.ready;
      idle = q.idle;
      creates = q.creates;
      create_ok = λ h low high pending kind s.
          let o = still_open c.outcome g h (create_for c g) pending in let d = not_lock h low high kind in
          subst (λ x. is_ok x ≡ true) (sym (other_outcome c.outcome g (create_for c h) (create_for c g) d))
          (q.create_ok h low high o.0 kind
          (subst (λ x. is_unsettled x ≡ false) (other_outcome c.outcome g (create_for c h) (create_for c g) d) s));
      limits = q.limits;
      zeroth = q.zeroth;
    }
  where
    not_lock : (h : ℕ) → 0 < h → h ≤ c.taken → is_create (c.op h) ≡ false → create_for c h ≢ g
    not_lock h low high kind = λ e. kinds (is_create (c.op g)) (ap (λ x. is_create (c.op x)) (sym e)
        ∙ ((q.creates h low high).1 kind).1) (lock_creates (c.op g) lock)
      where
        kinds : (b : Bool) → b ≡ true → b ≡ false → ⊥
        kinds b e f = absurd (cc)

pub slotless_push : (c : Client) (k : ℕ) (gs : List ℕ) (g : ℕ) → settle_no_slots c k (gs ++ g ∷ [])
    ≡ settle_no_slot (settle_no_slots c k gs) k g
unfolding settle_no_slots
slotless_push c k [] g = refl
slotless_push c k (x ∷ gs) g = slotless_push (settle_no_slot c k x) k gs g

-- ---- the choice

-- what a push that was chosen does, from the client c0 that it found
pub data Chosen (c0 : Client) (k : ℕ) (x : Choice) : Type 0 where
  Sending : (p : Pick) → x.pick ≡ Some p → may_push (settle_no_slots c0 k x.slotless) k p.op ≡ true
      → (goes_itself (settle_no_slots c0 k x.slotless) p.op ≡ true → has_its_slot (settle_no_slots c0 k x.slotless) p.op
      p.slot ≡ true)
      → ((h : ℕ) → 0 < h → h < p.op → is_unsettled ((settle_no_slots c0 k x.slotless).outcome h) ≡ false) → Chosen c0 k x
  SettledAll : x.pick ≡ None
      → ((h : ℕ) → 0 < h → h ≤ c0.taken → is_unsettled ((settle_no_slots c0 k x.slotless).outcome h) ≡ false)
      → Chosen c0 k x

unsettled_pushes : (c : Client) (k g : ℕ) → is_unsettled (c.outcome g) ≡ false → (n : Bool) → (may_push c k g && n) ≡ false
unsettled_pushes c k g e n = grind arith

one_more : (c : Client) (g : ℕ) → ((h : ℕ) → 0 < h → h < g → is_unsettled (c.outcome h) ≡ false)
    → is_unsettled (c.outcome g) ≡ false → (h : ℕ) → 0 < h → h < g + 1 → is_unsettled (c.outcome h) ≡ false
one_more c g lower s h low high =
    elim (h == g) as (λ b. h == g ≡ b → is_unsettled (c.outcome h) ≡ false) [
      | true ↦ λ q. ap (λ x. is_unsettled (c.outcome x)) (eqb-true h g q) ∙ s
      | false ↦ λ q. let d = eqb-false h g q in lower h low (omega (arith, d, high))
    ] refl

needs_lock : (c : Client) (g : ℕ) → (goes_itself c g && needs_slot c g) ≡ true → goes_itself c g ≡ true × needs_slot c g
    ≡ true × is_lock (c.op g) ≡ true
needs_lock c g e = (grind arith, grind arith, grind arith)

own_slot : (c : Client) (g i : ℕ) → (goes_itself c g && needs_slot c g) ≡ false → goes_itself c g ≡ true → has_its_slot c g i ≡ true
own_slot c g i e h = grind arith

free_slot : (c : Client) (g i : ℕ) → is_free c (create_for c g) i ≡ true → has_its_slot c g i ≡ true
free_slot c g i e = grind arith

lacking : (c : Client) (k g : ℕ) → may_push c k g ≡ true → goes_itself c g ≡ true → needs_slot c g ≡ true
    → has_free c (create_for c g) 64 ≡ false → lacks_slot c k g ≡ true
lacking c k g a b d e = grind arith

-- one operation is looked at, and then the others
chosen : (n : ℕ) (c0 c : Client) (k credits : ℕ) (slotless : List ℕ) (g : ℕ) → settle_no_slots c0 k slotless ≡ c
    → c.taken ≡ c0.taken → 0 < g → g + suc n ≡ c.taken + 1 → credits ≡ 512 → Calm c k
    → ((h : ℕ) → 0 < h → h < g → is_unsettled (c.outcome h) ≡ false)
    → ((d : Client) (s : List ℕ) → settle_no_slots c0 k s ≡ d → d.taken ≡ c0.taken → Calm d k
    → ((h : ℕ) → 0 < h → h < g + 1 → is_unsettled (d.outcome h) ≡ false)
    → Chosen c0 k (choose d k credits s (g + 1) n))
    → Chosen c0 k (choose c k credits slotless g (suc n))
chosen n c0 c k credits slotless g is taken low sum full q lower again = by (is_unsettled (c.outcome g)) refl
  where
    high : g ≤ c.taken
    high = omega (arith, sum)

    goes : is_unsettled (c.outcome g) ≡ true → (may_push c k g && nat_le (cost c g) credits) ≡ true
    goes pending = both (may_push c k g) _ (may_go c k g q low high pending lower) (affordable c g credits (q.limits g low high) full)

    sending : (i : ℕ) → is_unsettled (c.outcome g) ≡ true → (goes_itself c g ≡ true → has_its_slot c g i ≡ true)
        → Chosen c0 k (record { slotless = slotless; pick = Some (record { op = g; slot = i }) })
    sending i pending slot =
        Sending (record { op = g; slot = i }) refl (subst (λ (d : Client). may_push d k g ≡ true) (sym is)
        (may_go c k g q low high pending lower))
        (subst (λ (d : Client). goes_itself d g ≡ true → has_its_slot d g i ≡ true) (sym is) slot)
        (subst (λ (d : Client). (h : ℕ) → 0 < h → h < g → is_unsettled (d.outcome h) ≡ false) (sym is) lower)

    slotted : is_unsettled (c.outcome g) ≡ true → (goes_itself c g && needs_slot c g) ≡ true → (o : Option ℕ)
        → least_free c (create_for c g) 1 64 ≡ o → Chosen c0 k (choose c k credits slotless g (suc n))
    slotted pending needs (Some i) e =
        subst (λ x. Chosen c0 k x) (sym (choose_slot c k credits slotless g n i (goes pending) needs e))
        (sending i pending (λ _. free_slot c g i (slot_there c (create_for c g) 1 64 i e)))
    slotted pending needs None e =
        let l = needs_lock c g needs in let d = record c { outcome = put c.outcome g (NoSlot (create_for c g)) } in
        let lacks = lacking c k g (may_go c k g q low high pending lower) l.0 l.1 (no_slot_there c (create_for c g) e) in
        let s = no_slot_is c k g lacks in
        subst (λ x. Chosen c0 k x) (sym (choose_none c k credits slotless g n (goes pending) needs e))
        (subst (λ (u : Client). Chosen c0 k (choose u k credits (slotless ++ g ∷ []) (g + 1) n)) (sym s)
        (again d (slotless ++ g ∷ []) (slotless_push c0 k slotless g ∙ ap (λ u. settle_no_slot u k g) is ∙ s) taken
        (calm_slotless c k g l.2 q)
        (one_more d g (λ h a b. no_slot_outcome c.outcome g h (create_for c g) (lower h a b))
        (settled_slotless c.outcome g (create_for c g)))))

    by : (b : Bool) → is_unsettled (c.outcome g) ≡ b → Chosen c0 k (choose c k credits slotless g (suc n))
    by false e =
        subst (λ x. Chosen c0 k x) (sym (choose_off c k credits slotless g n (unsettled_pushes c k g e (nat_le (cost c g) credits))))
        (again c slotless is taken q (one_more c g lower e))
    by true e =
        elim (goes_itself c g && needs_slot c g) as (λ b. (goes_itself c g && needs_slot c g) ≡ b
        → Chosen c0 k (choose c k credits slotless g (suc n))) [
          | true ↦ λ f. slotted e f (least_free c (create_for c g) 1 64) refl
          | false ↦ λ f. subst (λ x. Chosen c0 k x) (sym (choose_on c k credits slotless g n (goes e) f)) (sending 0 e (own_slot c g 0 f))
        ] refl

pub chooses : (n : ℕ) (c0 c : Client) (k credits : ℕ) (slotless : List ℕ) (g : ℕ) → settle_no_slots c0 k slotless ≡ c
    → c.taken ≡ c0.taken → 0 < g → g + n ≡ c.taken + 1 → credits ≡ 512 → Calm c k
    → ((h : ℕ) → 0 < h → h < g → is_unsettled (c.outcome h) ≡ false) → Chosen c0 k (choose c k credits slotless g n)
unfolding choose
chooses zero c0 c k credits slotless g is taken low sum full q lower =
    SettledAll refl (λ h a b. subst (λ (d : Client). is_unsettled (d.outcome h) ≡ false) (sym is)
    (lower h a (omega (arith, b, sum, taken))))
chooses (suc n) c0 c k credits slotless g is taken low sum full q lower =
    chosen n c0 c k credits slotless g is taken low sum full q lower
    (λ d s u e x l. chooses n c0 d k credits s (g + 1) u e (omega arith) (omega (arith, sum, e, taken)) full x l)
