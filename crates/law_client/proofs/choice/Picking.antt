-- The client's choice, one operation at a time.
use Rattle.std.proofs.Common.{◌≡◌, ℕ, zero, suc, ◌+◌, ◌<◌, ◌≤◌, Bool, true, false, List, refl, ap}
use Rattle.std.proofs.Common.{◌∙◌, arith, None}
use Rattle.spec_exchange.specs.Client.{Client}
use Rattle.spec_exchange.specs.Schedules.{Choice, choose}
use Rattle.law_client.specs.table.Kept.{TableKept}
use Rattle.law_client.specs.choice.Choosing.{ChoiceGoes, ChoiceStays, chosen}
use Rattle.law_client.proofs.choice.Pushing.{goes, goes_so, stays_not}

abbrev by_turn : Client → ℕ → ℕ → List ℕ → ℕ → ℕ → Bool → Choice
by_turn c k credits slotless g n b = elim b as (λ x. Choice) [
  | false ↦ choose c k credits slotless (g + 1) n
  | true ↦
      chosen c k credits slotless g n
]

suc_is : (n : ℕ) → n + 1 ≡ suc n
suc_is n = omega arith

turn : (c : Client) (k credits : ℕ) (slotless : List ℕ) (g n : ℕ) → choose c k credits slotless g (n + 1)
    ≡ by_turn c k credits slotless g n (goes c k credits g)
unfolding choose
turn c k credits slotless g n = let step : choose c k credits slotless g (suc n) ≡ by_turn c k credits slotless g n
    (goes c k credits g) = refl in rw (suc_is n) step

passes : (c : Client) (k credits : ℕ) (slotless : List ℕ) (g n : ℕ) → goes c k credits g ≡ false
    → choose c k credits slotless g (n + 1) ≡ choose c k credits slotless (g + 1) n
passes c k credits slotless g n h = turn c k credits slotless g n ∙ ap (λ b. by_turn c k credits slotless g n b) h

takes : (c : Client) (k credits : ℕ) (slotless : List ℕ) (g n : ℕ) → goes c k credits g ≡ true
    → choose c k credits slotless g (n + 1) ≡ chosen c k credits slotless g n
takes c k credits slotless g n h = turn c k credits slotless g n ∙ ap (λ b. by_turn c k credits slotless g n b) h

-- what isn't to go out is passed over
skips : (c : Client) (k credits : ℕ) (slotless : List ℕ) (g m n : ℕ) → ((i : ℕ) → g ≤ i → i < g + m → goes c k credits i
    ≡ false) → choose c k credits slotless g (m + n) ≡ choose c k credits slotless (g + m) n
skips c k credits slotless g zero n h = let a : 0 + n ≡ n = omega arith in let b : g + 0 ≡ g = omega arith in rw (a, b) refl
skips c k credits slotless g (suc m) n h =
    let a : suc m + n ≡ m + n + 1 = omega arith in
    let b : g + suc m ≡ g + 1 + m = omega arith in
    rw (a, b) (passes c k credits slotless g (m + n) (h g (omega arith) (omega arith)) ∙ skips c k credits slotless
    (g + 1) m n (λ i l j. h i (omega arith) (omega arith)))

ends : (c : Client) (k credits : ℕ) (slotless : List ℕ) (g : ℕ) → choose c k credits slotless g 0 ≡ record {
  slotless = slotless;
  pick = None;
}
unfolding choose
ends c k credits slotless g = refl

pub none_goes : (c : Client) (k credits from m : ℕ) (slotless : List ℕ) → TableKept c → 0 < from → from + m ≡ c.taken + 1
    → ((g : ℕ) → from ≤ g → g ≤ c.taken → ChoiceStays c credits g)
    → choose c k credits slotless from m ≡ record { slotless = slotless; pick = None }
none_goes c k credits from m slotless i p e h =
    let a : m ≡ m + 0 = omega arith in
    ap (λ x. choose c k credits slotless from x) a ∙ skips c k credits slotless from m 0
    (λ g l j. stays_not c k credits g i (h g l (omega arith))) ∙ ends c k credits slotless (from + m)

pub first_goes : (c : Client) (k credits from d g n : ℕ) (slotless : List ℕ) → TableKept c → c.ready k ≡ true → 0 < from
    → from + d ≡ g → g + n ≡ c.taken
    → ((x : ℕ) → from ≤ x → x < g → ChoiceStays c credits x) → ChoiceGoes c credits g → choose c k credits slotless from
    (d + (n + 1)) ≡ chosen c k credits slotless g n
first_goes c k credits from d g n slotless i r p e f h w =
    skips c k credits slotless from d (n + 1) (λ x l j. stays_not c k credits x i (h x l (omega arith)))
    ∙ ap (λ x. choose c k credits slotless x (n + 1)) e
    ∙ takes c k credits slotless g n (goes_so c k credits g i r (omega arith) (omega arith) w)
