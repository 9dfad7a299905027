-- How many entries there are, and the sum of their lengths, after one came or went.
use Rattle.std.proofs.Common.{◌≡◌, ℕ, ◌+◌, ◌==◌, ◌≤◌, ◌<◌, false, if◌then◌else◌, List, [], ◌∷◌, ◌++◌, length, Some, None, refl, arith}
use Rattle.std.proofs.lemmas.Grind.{common_steps}
use Rattle.std.specs.Str.{bytes_eq}
use Rattle.spec_exchange.specs.State.{Entry}
use Rattle.spec_exchange.specs.Files.{sizes, without_file}
use Rattle.store_files.specs.file_tree.Shown.{folded, path_at, FileApart}
use Rattle.store_files.proofs.file_tree.Entries.{path_added, path_head, without_absent}

pub sizes_added : (content : ℕ → List ℕ) (es : List Entry) (n : ℕ) (p : List ℕ) → path_at es n ≡ None
    → sizes (λ q. if q == n then [] else content q) (es ++ record { file = n; path = p } ∷ []) ≡ sizes content es
unfolding sizes path_at
sizes_added content [] n p e = grind (arith, common_steps)
sizes_added content (x ∷ xs) n p e = let h = sizes_added content xs n p in grind (arith, common_steps)

pub length_added : (es : List Entry) (e : Entry) → length (es ++ e ∷ []) ≡ length es + 1
length_added [] e = refl
length_added (x ∷ xs) e = let h = length_added xs e in grind (arith, common_steps)

pub length_gone : (es : List Entry) (f : ℕ) (p : List ℕ) → FileApart es → path_at es f ≡ Some p → length (without_file f es) + 1 ≡ length es
unfolding path_at without_file
length_gone [] f p a e = absurd (cc)
length_gone (x ∷ xs) f p a e =
    let h = length_gone xs f p a.2 in let w = without_absent f xs in let m = path_head x xs f a in grind (arith, common_steps)

pub sizes_gone : (content : ℕ → List ℕ) (es : List Entry) (f : ℕ) (p : List ℕ) → FileApart es → path_at es f ≡ Some p
    → length (content f) + sizes content (without_file f es) ≡ sizes content es
unfolding sizes path_at without_file
sizes_gone content [] f p a e = absurd (cc)
sizes_gone content (x ∷ xs) f p a e =
    let h = sizes_gone content xs f p a.2 in let w = without_absent f xs in let m = path_head x xs f a in grind (arith, common_steps)

pub fresh_added : (es : List Entry) (n f : ℕ) (p : List ℕ) → ((g : ℕ) → n ≤ g → path_at es g ≡ None) → n + 1 ≤ f
    → path_at (es ++ record { file = n; path = p } ∷ []) f ≡ None
fresh_added es n f p h l =
    let e = path_added es (record { file = n; path = p }) f (h n (omega arith)) in
    let k = h f (omega arith) in
    grind (arith, common_steps)

pub root_added : (es : List Entry) (n : ℕ) (p : List ℕ) → path_at es n ≡ None → path_at es 0 ≡ None → 0 < n
    → path_at (es ++ record { file = n; path = p } ∷ []) 0 ≡ None
root_added es n p e z l = let k = path_added es (record { file = n; path = p }) 0 e in grind (arith, common_steps)

pub bytes_filled : (p : List ℕ) → (length p == 0) ≡ false → bytes_eq (folded p) [] ≡ false
bytes_filled [] n = grind arith
bytes_filled (c ∷ cs) n = refl
