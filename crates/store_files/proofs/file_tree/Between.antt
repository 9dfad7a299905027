-- Entries by key and by number, with one more anywhere among them.
use Rattle.std.proofs.Common.{◌≡◌, ℕ, ◌+◌, ◌==◌, Bool, true, false, if◌then◌else◌, List, [], ◌∷◌, ◌++◌, length, Option, Some, None}
use Rattle.std.proofs.Common.{refl, sym, ap, ◌∙◌, arith}
use Rattle.std.proofs.lemmas.Grind.{common_steps}
use Rattle.std.specs.Str.{bytes_eq}
use Rattle.spec_exchange.specs.State.{Entry}
use Rattle.spec_exchange.specs.Files.{sizes}
use Rattle.spec_exchange.specs.Texts.{is_component, leaf_of, begins_with_backslash}
use Rattle.store_files.specs.file_tree.Shown.{folded, at_key, path_at, FileApart, AllPlain}
use Rattle.store_files.proofs.file_tree.Entries.{bytes_same, key_differs, number_differs}

pub key_between : (xs ys : List Entry) (e : Entry) (q : List ℕ) → at_key (xs ++ ys) (folded e.path) ≡ None → at_key (xs ++ e ∷ ys) q
    ≡ (if bytes_eq (folded e.path) q then Some e.file else at_key (xs ++ ys) q)
unfolding at_key
key_between [] ys e q n = refl
key_between (x ∷ xs) ys e q n =
    let h = key_between xs ys e q in let s = bytes_same (folded e.path) q in grind (arith, common_steps)

pub path_between : (xs ys : List Entry) (e : Entry) (f : ℕ) → path_at (xs ++ ys) e.file ≡ None → path_at (xs ++ e ∷ ys) f
    ≡ (if f == e.file then Some e.path else path_at (xs ++ ys) f)
unfolding path_at
path_between [] ys e f n = grind (arith, common_steps)
path_between (x ∷ xs) ys e f n = let h = path_between xs ys e f in grind (arith, common_steps)

pub apart_between : (xs ys : List Entry) (e : Entry) → FileApart (xs ++ ys) → at_key (xs ++ ys) (folded e.path) ≡ None
    → path_at (xs ++ ys) e.file ≡ None → FileApart (xs ++ e ∷ ys)
unfolding at_key path_at
apart_between [] ys e a n m = (n, m, a)
apart_between (x ∷ xs) ys e a n m =
    let d = key_differs x e (xs ++ ys) n in let g = number_differs x e (xs ++ ys) m in (
      key_between xs ys e (folded x.path) d.1 ∙ rw (d.0) a.0,
      path_between xs ys e x.file g.1 ∙ rw (g.0) a.1,
      apart_between xs ys e a.2 d.1 g.1,
    )

sizes_absent : (content : ℕ → List ℕ) (zs : List Entry) (n : ℕ) (d : List ℕ) → path_at zs n ≡ None
    → sizes (λ q. if q == n then d else content q) zs ≡ sizes content zs
unfolding sizes path_at
sizes_absent content [] n d e = refl
sizes_absent content (z ∷ zs) n d e = let h = sizes_absent content zs n d in grind (arith, common_steps)

pub sizes_between : (content : ℕ → List ℕ) (xs ys : List Entry) (n : ℕ) (p d : List ℕ) → path_at (xs ++ ys) n ≡ None
    → sizes (λ q. if q == n then d else content q) (xs ++ record { file = n; path = p } ∷ ys) ≡ length d + sizes content (xs ++ ys)
unfolding sizes path_at
sizes_between content [] ys n p d e = let h = sizes_absent content ys n d e in grind (arith, common_steps)
sizes_between content (x ∷ xs) ys n p d e = let h = sizes_between content xs ys n p d in grind (arith, common_steps)

pub length_between : (xs ys : List Entry) (e : Entry) → length (xs ++ e ∷ ys) ≡ length (xs ++ ys) + 1
length_between [] ys e = omega arith
length_between (x ∷ xs) ys e = let h = length_between xs ys e in grind (arith, common_steps)

pub plain_between : (xs ys : List Entry) (e : Entry) → AllPlain (xs ++ ys) → is_component (leaf_of e.path) ≡ true
    → begins_with_backslash e.path ≡ false → AllPlain (xs ++ e ∷ ys)
plain_between [] ys e h l b = (l, b, h)
plain_between (x ∷ xs) ys e h l b = (h.0, h.1, plain_between xs ys e h.2 l b)
