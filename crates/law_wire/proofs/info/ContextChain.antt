-- A chain of short create contexts: it reads back as it was written.
use Rattle.std.proofs.Common.{◌≡◌, ℕ, ◌+◌, ◌<◌, ◌≤◌, Bool, true, false, List, [], ◌∷◌, ◌++◌, length, Option, refl, ◌∙◌, arith}
use Rattle.std.specs.Prelude.{◌==◌, if◌then◌else◌}
use Rattle.spec_wire.specs.messages.Places.{number, gap_to_8}
use Rattle.spec_wire.specs.messages.Table.{AreWritable}
use Rattle.spec_wire.specs.messages.Aligned.{told, aligned_gap}
use Rattle.spec_wire.specs.messages.Chain.{IsChainOf, chain_spelling}
use Rattle.spec_wire.specs.messages.CreateContexts.{CreateContext, IsContext, HasLength, context_whole, context_spelling, context_size}
use Rattle.law_wire.proofs.messages.Rows.{table_again, length-with_fields, size_of}
use Rattle.law_wire.proofs.info.Chains.{AllFit, spelled}
use Rattle.law_wire.proofs.info.OneContext.{again_context}

abbrev pub Fits : (List ℕ → Option ℕ) → CreateContext → ℕ → Type 0
Fits due v next = AreWritable (context_whole v next) × HasLength (due v.name) (length v.value)

-- a context of a short name with few data, as many as are due
pub record IsSmall (due : List ℕ → Option ℕ) (v : CreateContext) : Type 0 where
  pub name : length v.name ≡ 4
  pub few : length v.value ≤ 40
  pub size : HasLength (due v.name) (length v.value)

abbrev pub AreSmall : (List ℕ → Option ℕ) → List CreateContext → Type 0
AreSmall due [] = Unit {0}
AreSmall due (v ∷ vs) = IsSmall due v × AreSmall due vs

pub small_append : (due : List ℕ → Option ℕ) (xs ys : List CreateContext) → AreSmall due xs → AreSmall due ys → AreSmall due (xs ++ ys)
small_append due [] ys s t = t
small_append due (x ∷ xs) ys s t = (s.0, small_append due xs ys s.1 t)

choice_at_most : (empty : Bool) (n : ℕ) → (if empty then 0 else n) ≤ n
choice_at_most true n = omega arith
choice_at_most false n = omega arith

gap_small : (n : ℕ) → gap_to_8 n ≤ 7
gap_small n = omega arith

gap_fits : (v : CreateContext) → aligned_gap (length v.value) (length v.name) ≤ 7
gap_fits v = omega (arith, choice_at_most (length v.value == 0) (gap_to_8 (length v.name)), gap_small (length v.name))

fits : (due : List ℕ → Option ℕ) (v : CreateContext) (next : ℕ) → IsSmall due v → next ≤ 100 → Fits due v next
fits due v next s le =
    let gap = gap_fits v in
    let at : ℕ = 16 + length v.name + aligned_gap (length v.value) (length v.name) in
    let place : told (length v.value) at ≤ at = choice_at_most (length v.value == 0) at in (
      (
        omega arith,
        (
          omega arith,
          (omega (arith, s.name), (omega (arith, s.name, gap, place), (omega (arith, s.few), (refl, (refl, tt))))),
        ),
      ),
      s.size,
    )

size_small : (due : List ℕ → Option ℕ) (v : CreateContext) → IsSmall due v → context_size v + gap_to_8 (context_size v) ≤ 100
size_small due v s = omega (arith, s.name, s.few, gap_fits v, gap_small (context_size v))

all_fit : (due : List ℕ → Option ℕ) (v : CreateContext) (vs : List CreateContext) → AreSmall due (v ∷ vs)
    → AllFit (IsContext due) context_spelling context_size (Fits due) v vs
all_fit due v [] s = fits due v 0 s.0 (omega arith)
all_fit due v (w ∷ ws) s = (fits due v (context_size v + gap_to_8 (context_size v)) s.0 (size_small due v s.0), all_fit due w ws s.1)

positive : (v : CreateContext) → 0 < context_size v
positive v = omega arith

length-item : (due : List ℕ → Option ℕ) (v : CreateContext) (next : ℕ) → Fits due v next → length (context_spelling v next) ≡ context_size v
unfolding size_of
length-item due v next fit = length-with_fields (context_whole v next) [] fit.0 ∙ omega arith

next_told : (due : List ℕ → Option ℕ) (v : CreateContext) (next : ℕ) (rest : List ℕ) → Fits due v next
    → number 4 (context_spelling v next ++ rest) 0 ≡ next
next_told due v next rest fit = let row = table_again (context_whole v next) [] rest 0 refl fit.0 in row.0

again : (due : List ℕ → Option ℕ) (v : CreateContext) (next : ℕ) (rest : List ℕ) → Fits due v next
    → IsContext due (context_spelling v next ++ rest) v
again due v next rest fit = again_context due rest v next fit.0 fit.1

pub chain_again : (due : List ℕ → Option ℕ) (vs : List CreateContext) → AreSmall due vs → IsChainOf (IsContext due)
    (chain_spelling context_spelling context_size vs) vs
chain_again due [] s = refl
chain_again due (v ∷ vs) s = spelled (IsContext due) context_spelling context_size (Fits due) positive (length-item due)
    (next_told due) (again due) v vs (all_fit due v vs s)
