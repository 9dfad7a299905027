-- Why a rename is refused, test by test.
use Rattle.std.proofs.Common.{◌≡◌, ℕ, ◌==◌, Bool, true, false, not, ◌&&◌, if◌then◌else◌, List, [], ◌∷◌, length, Option}
use Rattle.std.proofs.Common.{Some, None, is_some, unwrap_or, refl, sym, ap, ◌∙◌, arith}
use Rattle.std.proofs.lemmas.Bool.Decides.{nat_tests}
use Rattle.std.specs.String.{string_bytes}
use Rattle.spec_exchange.specs.Status.{access_denied, object_name_collision}
use Rattle.spec_exchange.specs.State.{Server}
use Rattle.spec_exchange.specs.Content.{same_bytes}
use Rattle.spec_exchange.specs.Texts.{is_below}
use Rattle.spec_exchange.specs.Files.{find, exists, is_directory, path_of, path_in}
use Rattle.spec_exchange.specs.CheckOpen.{target_of}
use Rattle.store_files.specs.declared.file_tree.row.Row.{Row}
use Rattle.store_files.specs.file_tree.Shown.{folded, at_key, path_at, FileApart, FileRowFound}
use Rattle.store_files.specs.file_tree.Keys.{key_begins}
use Rattle.store_files.specs.file_tree.Moved.{target_refusal}
use Rattle.store_files.proofs.file_tree.Keys.{path_is}
use Rattle.store_files.proofs.file_tree.Found.{found_there, found_path, found_directory, found_below}
use Rattle.store_files.proofs.file_tree.Full.{row_filled}
use Rattle.store_files.proofs.file_tree.Below.{below_is}

module _ (s : Server) (f : ℕ) (replace : Bool) (to : List ℕ) where
  pub collides : (not replace && is_some (find s to)) ≡ true → Some object_name_collision ≡ target_refusal s f replace to
  collides e = rw e refl

  target_found : (o : Option ℕ) (g : ℕ) → target_of f o ≡ Some g → o ≡ Some g
  target_found None g e = absurd (cc)
  target_found (Some x) g e = by (x == f) e
    where
      by : (b : Bool) → (if b then None else Some x) ≡ Some g → Some x ≡ Some g
      by true e = absurd (cc)
      by false e = e

  pub target_there : (g : ℕ) → target_of f (find s to) ≡ Some g → exists s g ≡ true
  target_there g e = found_there s to g (target_found (find s to) g e)

  pub onto_directory : (g : ℕ) → (not replace && is_some (find s to)) ≡ false → target_of f (find s to) ≡ Some g
      → is_directory s g ≡ true → Some access_denied ≡ target_refusal s f replace to
  onto_directory g e i d = rw (e, i, d) refl

  pub onto_file : (g : ℕ) → (not replace && is_some (find s to)) ≡ false → target_of f (find s to) ≡ Some g
      → is_directory s g ≡ false → None ≡ target_refusal s f replace to
  onto_file g e i d = rw (e, i, d) refl

  pub onto_nothing : (not replace && is_some (find s to)) ≡ false → target_of f (find s to) ≡ None → None ≡ target_refusal s f replace to
  onto_nothing e i = rw (e, i) refl

-- ---- below itself

empty_is : (p : List ℕ) → same_bytes p [] ≡ (length p == 0)
unfolding same_bytes
empty_is [] = refl
empty_is (c ∷ cs) = grind arith

pub root_below : (s : Server) (f : ℕ) (p : List ℕ) → path_at s.entries 0 ≡ None → f ≡ 0 → not (length p == 0)
    ≡ (is_directory s f && is_below (path_of s f) p)
unfolding is_directory path_of is_below
root_below s f p z e =
    let root : path_in s.entries f ≡ [] = ap (path_in s.entries) e
    ∙ (path_is s.entries 0 ∙ ap (λ (o : Option (List ℕ)). unwrap_or o []) z) in
    let here : (f == 0) ≡ true = grind (arith, nat_tests) in
    rw (here, root, empty_is p) refl

pub row_below : (s : Server) (f : ℕ) (r : Row) (path : List ℕ) (b : Bool) → FileApart s.entries → at_key s.entries [] ≡ None
    → path_at s.entries 0 ≡ None → (f == 0) ≡ false → FileRowFound (Some r) s f
    → r.directory ≡ true → b ≡ key_begins (string_bytes r.below) (folded path) → b ≡ (is_directory s f && is_below (path_of s f) path)
row_below s f r path b a n z e h d i =
    let filled = row_filled s f r a n e h in
    i ∙ (ap (λ (k : List ℕ). key_begins k (folded path)) (found_below s f r h filled d)
    ∙ (sym (below_is r.path path filled) ∙ (ap (λ (p : List ℕ). is_below p path) (found_path s f r z h)
    ∙ sym (rw (sym (found_directory s f r h) ∙ d) refl))))

pub file_below : (s : Server) (f : ℕ) (r : Row) (path : List ℕ) → FileRowFound (Some r) s f → r.directory ≡ false
    → r.directory ≡ (is_directory s f && is_below (path_of s f) path)
file_below s f r path h d = d ∙ sym (rw (sym (found_directory s f r h) ∙ d) refl)
