-- Lists are the same exactly where no byte differs.
use Rattle.std.proofs.Common.{◌≡◌, ℕ, ◌+◌, ◌≤◌, ◌<◌, true, eqb, List, [], ◌∷◌, ◌++◌, length, take, get_or, refl, sym, ap, ◌∙◌, arith}
use Rattle.std.specs.Int.Bits.{bit_xor, bit_or, xor_self, xor_assoc, xor_zero_l, xor_zero_r, or_zero_l}
use Rattle.std.proofs.lemmas.Nat.{le_or_l, le_or_r}
use Rattle.std.proofs.lemmas.Bool.{eqb-true}
use Rattle.std.proofs.lemmas.List.{take_more, take_more_same, same_from_push, take_all}

or_none : (a b : ℕ) → bit_or a b ≡ 0 → (a ≡ 0) × (b ≡ 0)
or_none a b e =
    let l : a ≤ bit_or a b = le_or_l a b in
    let r : b ≤ bit_or a b = le_or_r a b in
    (omega arith, omega arith)

xor_none : (a b : ℕ) → bit_xor a b ≡ 0 → a ≡ b
xor_none a b e = sym (xor_zero_r a) ∙ ap (λ (x : ℕ). bit_xor a x) (sym (xor_self b)) ∙ sym (xor_assoc a b b) ∙ ap (λ (x
    : ℕ). bit_xor x b) e ∙ xor_zero_l b

pub compared_none : (a b : List ℕ) (i d : ℕ) → i < length a → length a ≡ length b → (d ≡ 0 → take i a ≡ take i b)
    → bit_or d (bit_xor (get_or a i 0) (get_or b i 0)) ≡ 0 → take (i + 1) a ≡ take (i + 1) b
compared_none a b i d lt len so_far e =
    let p : (d ≡ 0) × (bit_xor (get_or a i 0) (get_or b i 0) ≡ 0) = or_none d (bit_xor (get_or a i 0) (get_or b i 0)) e in
    take_more_same a b i 0 lt (omega arith) (so_far p.0) (xor_none (get_or a i 0) (get_or b i 0) p.1)

pub compared_same : (a b : List ℕ) (i d : ℕ) → i < length a → length a ≡ length b → (take i a ≡ take i b → d ≡ 0)
    → take (i + 1) a ≡ take (i + 1) b → bit_or d (bit_xor (get_or a i 0) (get_or b i 0)) ≡ 0
compared_same a b i d lt len so_far e =
    let j : take i a ++ get_or a i 0 ∷ [] ≡ take i b ++ get_or b i 0 ∷ [] = sym (take_more a i 0 lt) ∙ e ∙ take_more b i 0 (omega arith) in
    let p : (take i a ≡ take i b) × (get_or a i 0 ≡ get_or b i 0) = same_from_push (take i a) (take i b) (get_or a i 0) (get_or b i 0) j in
    rw (so_far p.0, p.1, xor_self (get_or b i 0)) (or_zero_l 0)

pub compared_whole : (a b : List ℕ) (i d : ℕ) → length a ≤ i → length a ≡ length b → (d ≡ 0 → take i a ≡ take i b) →
    (take i a ≡ take i b → d ≡ 0)
    → (eqb d 0 ≡ true → a ≡ b) × (a ≡ b → eqb d 0 ≡ true)
compared_whole a b i d le len none same = (
  λ e. sym (take_all i a le) ∙ none (eqb-true d 0 e) ∙ take_all i b (omega arith),
  λ e. rw (same (ap (λ (l : List ℕ). take i l) e)) refl,
)
