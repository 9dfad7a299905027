-- Fronts and rests of lists.
use Rattle.std.proofs.Common.{◌≡◌, ℕ, zero, suc, ◌+◌, List, [], ◌∷◌, ◌++◌, length, take, drop, refl, sym, ◌∙◌, ap, arith}
use Rattle.std.proofs.lemmas.List.{take_at, drop_at}

-- a front in two pieces
pub take_sum : (n m k : ℕ) (l : List ℕ) → k ≡ n + m → take k l ≡ take n l ++ take m (drop n l)
take_sum zero m k l is = let same : k ≡ m = omega arith in ap (λ (j : ℕ). take j l) same
take_sum (suc n) m zero l is = absurd (omega arith)
take_sum (suc n) zero (suc k) [] is = refl
take_sum (suc n) (suc m) (suc k) [] is = refl
take_sum (suc n) m (suc k) (x ∷ l) is = ap (λ (r : List ℕ). x ∷ r) (take_sum n m k l (omega arith))

pub take_past : (xs ys : List ℕ) (m n : ℕ) → m ≡ length xs + n → take m (xs ++ ys) ≡ xs ++ take n ys
take_past [] ys m n is = let same : m ≡ n = omega arith in ap (λ (k : ℕ). take k ys) same
take_past (x ∷ xs) ys zero n is = absurd (omega arith)
take_past (x ∷ xs) ys (suc m) n is = ap (λ (l : List ℕ). x ∷ l) (take_past xs ys m n (omega arith))

-- equal lists have equal fronts of equal lengths, and equal rests
pub parts : (p q r s : List ℕ) → length p ≡ length q → p ++ r ≡ q ++ s → (p ≡ q) × (r ≡ s)
parts p q r s long same = (
  sym (take_at p r (length p) refl) ∙ ap (λ (l : List ℕ). take (length p) l) same ∙ take_at q s (length p) (sym long),
  sym (drop_at p r (length p) refl) ∙ ap (λ (l : List ℕ). drop (length p) l) same ∙ drop_at q s (length p) (sym long),
)
