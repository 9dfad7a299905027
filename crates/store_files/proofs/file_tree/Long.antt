-- A search through the keys, one after another, and the comparison of a key with a path.
use Rattle.std.proofs.Common.{◌≡◌, ℕ, ◌==◌, ◌<◌, ◌+◌, Bool, true, false, List, ◌∷◌, length, get_or, drop, String}
use Rattle.std.proofs.Common.{Option, Some, refl, sym, ◌∙◌, arith}
use Rattle.std.proofs.lemmas.Grind.{common_steps}
use Rattle.std.specs.Str.{bytes_eq}
use Rattle.std.specs.String.{string_bytes}
use Rattle.std.specs.Map.{lookup}
use Rattle.std.specs.Ordering.{is_eq, nat_cmp}
use Rattle.std.specs.Cmp.Lexicographic.{slice_cmp}
use Rattle.std.specs.Char.{to_ascii_uppercase}
use Rattle.std.proofs.lemmas.Map.Text.{is_eq-slice_cmp}
use Rattle.std.proofs.lemmas.List.{drop_more, drop_all, length-map, get_or-map}
use Rattle.store_files.specs.file_tree.Shown.{folded}

module _ {Y : Type 0} (q : List ℕ) (k : String Y) (v : ℕ) (xs ys : List (String Y × ℕ)) (got : Option ℕ) (r : Bool)
    (so_far : got ≡ lookup (λ k. is_eq (slice_cmp nat_cmp q (string_bytes k))) xs) (step : xs ≡ (k, v) ∷ ys)
    (is : r ≡ bytes_eq q (string_bytes k)) where
  pub passed : r ≡ false → got ≡ lookup (λ k. is_eq (slice_cmp nat_cmp q (string_bytes k))) ys
  passed n = so_far ∙ rw (step, is_eq-slice_cmp q (string_bytes k), sym is, n) refl

  pub hit : r ≡ true → got ≡ Some v
  hit n = so_far ∙ rw (step, is_eq-slice_cmp q (string_bytes k), sym is, n) refl

-- the bytes at a place of a key, and of a path in upper case
at_place : (path key : List ℕ) (i : ℕ) → i < length key → i < length path → bytes_eq (drop i (folded path)) (drop i key)
    ≡ bytes_eq (to_ascii_uppercase (get_or path i 0) ∷ drop (i + 1) (folded path)) (get_or key i 0 ∷ drop (i + 1) key)
at_place path key i k p =
    rw (
      drop_more (folded path) i 0 (rw (length-map path to_ascii_uppercase) p),
      drop_more key i 0 k,
      get_or-map to_ascii_uppercase path i 0 0 p,
    ) refl

step_alike : (u k : ℕ) (us ks : List ℕ) → (k == u) ≡ true → bytes_eq (u ∷ us) (k ∷ ks) ≡ bytes_eq us ks
step_alike u k us ks e = grind (arith, common_steps)

step_differs : (u k : ℕ) (us ks : List ℕ) → (k == u) ≡ false → bytes_eq (u ∷ us) (k ∷ ks) ≡ false
step_differs u k us ks e = grind (arith, common_steps)

pub upper_alike : (path key : List ℕ) (i : ℕ) → i < length key → i < length path
    → (get_or key i 0 == to_ascii_uppercase (get_or path i 0)) ≡ true
    → bytes_eq (drop i (folded path)) (drop i key) ≡ bytes_eq (drop (i + 1) (folded path)) (drop (i + 1) key)
upper_alike path key i k p e = at_place path key i k p ∙ step_alike (to_ascii_uppercase (get_or path i 0))
    (get_or key i 0) (drop (i + 1) (folded path)) (drop (i + 1) key) e

pub upper_differs : (path key : List ℕ) (i : ℕ) → i < length key → i < length path
    → (get_or key i 0 == to_ascii_uppercase (get_or path i 0)) ≡ false
    → bytes_eq (drop i (folded path)) (drop i key) ≡ false
upper_differs path key i k p e = at_place path key i k p ∙ step_differs (to_ascii_uppercase (get_or path i 0))
    (get_or key i 0) (drop (i + 1) (folded path)) (drop (i + 1) key) e

pub upper_end : (path key : List ℕ) (i : ℕ) → i ≡ length key → length key ≡ length path
    → bytes_eq (drop i (folded path)) (drop i key) ≡ true
upper_end path key i e l = rw (
  drop_all i (folded path) (let m = length-map path to_ascii_uppercase in omega arith),
  drop_all i key (omega arith),
) refl
