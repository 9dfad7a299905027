-- Where a key's first backslash stands behind a front.
use Rattle.std.proofs.Common.{◌≡◌, ℕ, zero, suc, ◌+◌, ◌<◌, ◌≤◌, ◌==◌, Bool, true, false, List, [], ◌∷◌, ◌++◌}
use Rattle.std.proofs.Common.{length, take, drop, get_or, refl, sym, ap, ◌∙◌, arith}
use Rattle.std.proofs.lemmas.Bool.Decides.{nat_tests}
use Rattle.std.proofs.lemmas.List.{length-take-le}
use Rattle.std.proofs.lemmas.Str.{IsCharBoundary-before_ascii}
use Rattle.std.specs.Str.{IsCharBoundary}
use Rattle.store_files.specs.file_tree.Keys.{has_slash}

none_left : (n : ℕ) → has_slash (drop n []) ≡ false
unfolding has_slash
none_left zero = refl
none_left (suc n) = refl

pub no_slash : (key : List ℕ) (n : ℕ) → ((k : ℕ) → n ≤ k → k < length key → (get_or key k 0 == 92) ≡ false) → has_slash (drop n key) ≡ false
unfolding has_slash
no_slash [] n h = none_left n
no_slash (c ∷ cs) zero h =
    let a : (c == 92) ≡ false = h 0 (omega arith) (omega arith) in
    let b : has_slash cs ≡ false = no_slash cs zero (λ k l m. h (suc k) (omega arith) (omega arith)) in
    rw (a, b) refl
no_slash (c ∷ cs) (suc n) h = no_slash cs n (λ k l m. h (suc k) (omega arith) (omega arith))

pub slash_at : (key : List ℕ) (i : ℕ) → i < length key → (get_or key i 0 == 92) ≡ true → (rest : List ℕ) × (key ≡ take i key ++ 92 ∷ rest)
slash_at [] i l e = absurd (omega arith)
slash_at (c ∷ cs) zero l e = let same : c ≡ 92 = grind (arith, nat_tests) in (cs, ap (λ (x : ℕ). x ∷ cs) same)
slash_at (c ∷ cs) (suc i) l e = let h = slash_at cs i (omega arith) e in (h.0, ap (λ (x : List ℕ). c ∷ x) h.1)

-- no backslash so far
abbrev pub NoneTo : List ℕ → ℕ → ℕ → Type 0
NoneTo key from to = (k : ℕ) → from ≤ k → k < to → (get_or key k 0 == 92) ≡ false

pub none_more : (key : List ℕ) (from i : ℕ) → NoneTo key from i → (get_or key i 0 == 92) ≡ false → NoneTo key from (i + 1)
none_more key from i h e = λ k l m. by k l m (k == i) refl
  where
    by : (k : ℕ) → from ≤ k → k < i + 1 → (b : Bool) → (k == i) ≡ b → (get_or key k 0 == 92) ≡ false
    by k l m true s = let same : k ≡ i = grind (arith, nat_tests) in ap (λ (x : ℕ). get_or key x 0 == 92) same ∙ e
    by k l m false s = let other : k < i = grind (arith, nat_tests) in h k l other

pub cut_there : (key d : List ℕ) (front i : ℕ) → front ≤ i → i < length key → get_or key i 0 ≡ 92 → (IsCharBoundary key i → d ≡ take i key)
    → (front ≤ length d) × ((rest : List ℕ) × (key ≡ d ++ 92 ∷ rest))
cut_there key d front i f l e h =
    let same : (get_or key i 0 == 92) ≡ true = grind (arith, nat_tests) in
    let s = slash_at key i l same in
    let t = h (IsCharBoundary-before_ascii key i l (omega arith)) in
    let size : length d ≡ i = ap (λ (x : List ℕ). length x) t ∙ length-take-le i key (omega arith) in
    (omega arith, (s.0, s.1 ∙ ap (λ (x : List ℕ). x ++ 92 ∷ s.0) (sym t)))
