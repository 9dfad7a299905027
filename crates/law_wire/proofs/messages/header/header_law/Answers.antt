use Rattle.std.proofs.Common.{◌≡◌, ℕ, ◌+◌, ◌*◌, ◌^◌, ◌≤◌, List, [], ◌∷◌, ◌++◌, length, take, drop, refl, ap, ◌∙◌, arith, length-drop}
use Rattle.std.proofs.lemmas.Grind.{common_steps}
use Rattle.std.proofs.lemmas.List.{drop-drop, length-take}
use Rattle.std.proofs.Math.Seq.{take-add}
use Rattle.spec_wire.specs.messages.Places.{number, number_of, bytes_at}
use Rattle.spec_wire.specs.messages.Header.{header_table}
use Rattle.law_wire.proofs.messages.Rows.{table_again, length-with_fields, size_of}
use Rattle.law_wire.proofs.messages.header.header_law.Goals as goal

pub returns-clause-length : goal.returns-clause-length
unfolding size_of
returns-clause-length c = λ h fit. length-with_fields (header_table h) [] fit

pub returns-clause-again : goal.returns-clause-again
returns-clause-again c = λ rest h fit. table_again (header_table h) [] rest 0 refl fit

-- the number of one list of four bytes and another
wide_number : (xs ys : List ℕ) → length xs ≡ 4 → number_of (xs ++ ys) ≡ number_of xs + 2 ^ 32 * number_of ys
unfolding number_of
wide_number [] ys e = absurd (omega (arith, e))
wide_number (a ∷ []) ys e = absurd (omega (arith, e))
wide_number (a ∷ b ∷ []) ys e = absurd (omega (arith, e))
wide_number (a ∷ b ∷ d ∷ []) ys e = absurd (omega (arith, e))
wide_number (a ∷ b ∷ d ∷ f ∷ []) ys e = omega arith
wide_number (a ∷ b ∷ d ∷ f ∷ g ∷ xs) ys e = absurd (omega (arith, e))

two_halves : (m : List ℕ) → 64 ≤ length m → number 8 m 32 ≡ number 4 m 32 + 2 ^ 32 * number 4 m 36
unfolding bytes_at
two_halves m whole =
    let size : length (take 4 (drop 32 m)) ≡ 4 = omega (arith, whole, length-take 4 (drop 32 m), length-drop 32 m) in
    ap number_of (take-add 4 4 (drop 32 m)) ∙ wide_number (take 4 (drop 32 m)) (take 4 (drop 4 (drop 32 m))) size
    ∙ ap (λ (l : List ℕ). number_of (take 4 (drop 32 m)) + 2 ^ 32 * number_of (take 4 l)) (drop-drop 4 32 m)

pub returns-clause-wide : goal.returns-clause-wide
returns-clause-wide c = λ m h stands.
    let whole : 64 ≤ length m = grind (arith, common_steps) in
    let tree : number 4 m 36 ≡ h.tree = grind (arith, common_steps) in
    two_halves m whole ∙ ap (λ (k : ℕ). number 4 m 32 + 2 ^ 32 * k) tree
