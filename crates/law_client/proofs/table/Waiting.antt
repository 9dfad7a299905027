-- What waits, as the model says it and as a fact on each lower operation.
use Rattle.std.proofs.Common.{◌≡◌, ℕ, zero, suc, ◌<◌, ◌==◌, ◌&&◌, Bool, true, false, if◌then◌else◌, refl}
use Rattle.std.proofs.Common.{arith, ◌⊎◌, inl, inr, sym}
use Rattle.spec_exchange.specs.Operations.{is_unsettled, holds_up}
use Rattle.spec_exchange.specs.Client.{Client, create_for, waits}
use Rattle.law_client.specs.table.Columns.{ops_of, standing_of, IsClientFirst}
use Rattle.law_client.specs.table.Kept.{Ordered}

waits_step : (same holds stands rest : Bool) → rest ≡ false → (same ≡ true → holds ≡ true → stands ≡ false)
    → (if same && holds then (if stands then true else rest) else rest) ≡ false
waits_step same holds stands rest r h = grind arith

free_below : (c : Client) (g n : ℕ) → ((h : ℕ) → h < n → create_for c h ≡ create_for c g → holds_up (c.op h) (c.op g)
    ≡ true → is_unsettled (c.outcome h) ≡ false) → waits c g n ≡ false
unfolding waits
free_below c g zero f = refl
free_below c g (suc n) f =
    waits_step (create_for c n == create_for c g) (holds_up (c.op n) (c.op g)) (is_unsettled (c.outcome n))
    (waits c g n) (free_below c g n (λ h l. f h (omega arith)))
    (λ e. f n (omega arith) (same (create_for c n) (create_for c g) e))
  where
    same : (x y : ℕ) → (x == y) ≡ true → x ≡ y
    same x y e = grind arith

rest_free : (same holds stands rest : Bool) → (if same && holds then (if stands then true else rest) else rest) ≡ false → rest ≡ false
rest_free same holds stands rest h = grind arith

here_free : (same holds stands rest : Bool) → (if same && holds then (if stands then true else rest) else rest) ≡ false
    → same ≡ true → holds ≡ true → stands ≡ false
here_free same holds stands rest h a b = grind arith

equal : (x y : ℕ) → x ≡ y → (x == y) ≡ true
equal x y e = grind arith

below_or_last : (h n : ℕ) → h < suc n → (h < n) ⊎ (h ≡ n)
below_or_last h n l = grind arith

none_below : (c : Client) (g n : ℕ) → waits c g n ≡ false → (h : ℕ) → h < n → create_for c h ≡ create_for c g
    → holds_up (c.op h) (c.op g) ≡ true → is_unsettled (c.outcome h) ≡ false
unfolding waits
none_below c g zero w h l same holds = absurd (omega arith)
none_below c g (suc n) w h l same holds =
    let a = create_for c n == create_for c g in
    let b = holds_up (c.op n) (c.op g) in
    let d = is_unsettled (c.outcome n) in
    elim (below_or_last h n l) [
      | inl k ↦ none_below c g n (rest_free a b d (waits c g n) w) h k same holds
      | inr e ↦ rw e (here_free a b d (waits c g n) w (equal (create_for c n) (create_for c g) (rw (sym e) same)) (rw (sym e) holds))
    ]

pub waits_not : (c : Client) (g : ℕ) → waits c g g ≡ false → IsClientFirst (ops_of c) (standing_of c) g
waits_not c g w h above below same holds = none_below c g g w h below same holds

zero_or_more : (h : ℕ) → (h ≡ 0) ⊎ (0 < h)
zero_or_more h = grind arith

pub first_waits : (c : Client) (g : ℕ) → Ordered (ops_of c) → 0 < create_for c g → IsClientFirst (ops_of c) (standing_of c) g
    → waits c g g ≡ false
first_waits c g i above first =
    free_below c g g (λ h below same holds. (
    elim (zero_or_more h) as (λ _. is_unsettled (c.outcome h) ≡ false) [
      | inl e ↦ absurd (let n = i.nought in let q : create_for c h ≡ 0 = rw e n in omega arith)
      | inr e ↦ first h e below same holds
    ]
    ))
