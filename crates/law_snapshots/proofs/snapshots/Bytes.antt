-- The bytes of a file, patch by patch.
use Rattle.std.proofs.Common.{◌≡◌, ℕ, ◌+◌, ◌-◌, ◌≤◌, List, [], ◌∷◌, ◌++◌, length, take, drop, replicate}
use Rattle.std.proofs.Common.{refl, sym, ap, ◌∙◌, arith}
use Rattle.std.proofs.lemmas.List.{append-nil, append_assoc, take_at, take_all, take-replicate, drop_at, drop-drop, drop-replicate, length-append}
use Rattle.spec_exchange.specs.Content.{written, padded, is_empty, ended}
use Rattle.law_snapshots.specs.snapshots.Pieces.{patched}
use Rattle.law_snapshots.specs.snapshots.Kept.{parts_joined, patches_of}

padded_same : (n : ℕ) (c : List ℕ) → n - length c ≡ 0 → padded n c ≡ c
unfolding padded
padded_same n c e = ap (λ (k : ℕ). c ++ replicate k 0) e ∙ append-nil c

dropped : (p c : List ℕ) (n : ℕ) → drop (length p + length c) (p ++ replicate (length c + n) 0) ≡ replicate n 0
dropped p c n =
    sym (drop-drop (length c) (length p) (p ++ replicate (length c + n) 0))
    ∙ ap (λ (l : List ℕ). drop (length c) l) (drop_at p (replicate (length c + n) 0) (length p) refl)
    ∙ drop-replicate (length c) (length c + n) 0
    ∙ ap (λ (k : ℕ). replicate k 0) (omega arith)

-- a part is put over the first zeros
written_next : (p c : List ℕ) (n : ℕ) → written (length p) c (p ++ replicate (length c + n) 0) ≡ (p ++ c) ++ replicate n 0
unfolding written is_empty
written_next p [] n =
    let none : 0 + n ≡ n = omega arith in
    ap (λ (k : ℕ). p ++ replicate k 0) none ∙ ap (λ (l : List ℕ). l ++ replicate n 0) (sym (append-nil p))
written_next p (x ∷ xs) n =
    let zs : List ℕ = replicate (length (x ∷ xs) + n) 0 in
    let off : length p - length (p ++ zs) ≡ 0 = omega (arith, length-append p zs) in
    let front : take (length p) (padded (length p) (p ++ zs)) ≡ p =
    ap (λ (l : List ℕ). take (length p) l) (padded_same (length p) (p ++ zs) off) ∙ take_at p zs (length p) refl in
    ap (λ (l : List ℕ). l ++ ((x ∷ xs) ++ drop (length p + length (x ∷ xs)) (p ++ zs))) front
    ∙ ap (λ (l : List ℕ). p ++ ((x ∷ xs) ++ l)) (dropped p (x ∷ xs) n)
    ∙ sym (append_assoc p (x ∷ xs) (replicate n 0))

-- parts over zeros, one behind the other
parts_patched : (p : List ℕ) (cs : List (List ℕ)) → patched (patches_of (length p) cs) (p ++ replicate (length (parts_joined cs)) 0) ≡ p ++ parts_joined cs
unfolding patched patches_of parts_joined
parts_patched p [] = refl
parts_patched p (c ∷ cs) =
    let n : ℕ = length (parts_joined cs) in
    let place : length p + length c ≡ length (p ++ c) = sym (length-append p c) in
    ap (λ (k : ℕ). patched (patches_of (length p + length c) cs) (written (length p) c (p ++ replicate k 0))) (length-append c (parts_joined cs))
    ∙ ap (λ (l : List ℕ). patched (patches_of (length p + length c) cs) l) (written_next p c n)
    ∙ ap (λ (k : ℕ). patched (patches_of k cs) ((p ++ c) ++ replicate n 0)) place
    ∙ parts_patched (p ++ c) cs ∙ append_assoc p c (parts_joined cs)

none_taken : (w : List ℕ) → take 0 w ≡ []
none_taken [] = refl
none_taken (x ∷ w) = refl

zeros_of : (n : ℕ) → ended n [] ≡ replicate n 0
unfolding ended padded
zeros_of n =
    let same : n - 0 ≡ n = omega arith in
    let whole : n ≤ n = omega arith in
    let zeros : ℕ → List ℕ = λ k. replicate k 0 in
    ap (λ (k : ℕ). take n (zeros k)) same ∙ take-replicate {X = ℕ} n n 0 whole

zeros_alone : (n : ℕ) (w : List ℕ) → ended n (take 0 w) ≡ replicate n 0
zeros_alone n w = ap (λ (c : List ℕ). ended n c) (none_taken w) ∙ zeros_of n

-- a file of which nothing is stored, and whose bytes are told whole
pub cut_told : (cs : List (List ℕ)) (w : List ℕ) → patched (patches_of 0 cs) (ended (length (parts_joined cs)) (take 0 w)) ≡ parts_joined cs
cut_told cs w = ap (λ (l : List ℕ). patched (patches_of 0 cs) l) (zeros_alone (length (parts_joined cs)) w) ∙ parts_patched [] cs

-- a file that is stored whole, of which nothing is told
pub stored_told : (c more : List ℕ) → patched [] (ended (length c) (take (length c) (c ++ more))) ≡ c
unfolding patched ended
stored_told c more =
    ap (λ (l : List ℕ). take (length c) (padded (length c) l)) (take_at c more (length c) refl)
    ∙ ap (λ (l : List ℕ). take (length c) l) (padded_same (length c) c (omega arith)) ∙ take_all (length c) c (omega arith)
