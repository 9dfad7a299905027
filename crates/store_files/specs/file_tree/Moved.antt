-- A rename: why it is refused, its keys, and the table between its two steps.
use Rattle.std.specs.Prelude.{◌≡◌, ℕ, ◌==◌, Bool, true, false, not, ◌&&◌, if◌then◌else◌, List, [], ◌∷◌, ◌++◌, Option}
use Rattle.std.specs.Prelude.{Some, None, is_some, option_map, ⊤}
use Rattle.std.specs.BTreeMap.{get_by_text}
use Rattle.std.specs.String.{string_bytes}
use Rattle.std.specs.Str.{bytes_eq}
use Rattle.spec_exchange.specs.Status.{access_denied, invalid_parameter, object_path_not_found, object_name_collision}
use Rattle.spec_exchange.specs.Texts.{is_below}
use Rattle.spec_exchange.specs.State as model
use Rattle.spec_exchange.specs.Table.{has}
use Rattle.spec_exchange.specs.Commands.{path_form}
use Rattle.spec_exchange.specs.Files.{root, find, has_parent, is_directory, path_of, path_in, moved_path, exists_in}
use Rattle.spec_exchange.specs.CheckOpen.{target_of}
use Rattle.store_files.specs.declared.file_tree.tree.Tree.{Tree}
use Rattle.store_files.specs.declared.file_tree.row.Row.{Row}
use Rattle.store_files.specs.declared.file_tree.new_name.NewName.{NewName}
use Rattle.store_files.specs.declared.file_tree.rename.Move.{Move}
use Rattle.store_files.specs.file_tree.Shown.{folded, below_key, at_key, path_at, FileShowsRows}
use Rattle.store_files.specs.file_tree.Refusals.{form_first}

-- ---- refusals, in their order (MS-FSA 2.1.5.15.11); that nothing of it is open is asked elsewhere

abbrev pub target_is_directory : model.Server → Option ℕ → Bool
target_is_directory s None = false
target_is_directory s (Some t) = is_directory s t

-- the target is there without replace, or it is a directory; the file itself is none
abbrev pub target_refusal : model.Server → ℕ → Bool → List ℕ → Option ℕ
target_refusal s f replace to =
    if not replace && is_some (find s to) then Some object_name_collision
    else if target_is_directory s (target_of f (find s to)) then Some access_denied
    else None

abbrev pub move_refusal : model.Server → ℕ → Bool → List ℕ → Option ℕ
move_refusal s f replace to =
    if f == root then Some access_denied
    else if is_directory s f && is_below (path_of s f) to then Some invalid_parameter
    else if not (has_parent s to) then Some object_path_not_found
    else target_refusal s f replace to

abbrev pub rename_refusal : model.Server → ℕ → Bool → List ℕ → Option ℕ
rename_refusal s f replace to = form_first (path_form to) (move_refusal s f replace to)

-- ---- keys

-- what follows the front, where the key begins with it
unfoldable pub after_key : List ℕ → List ℕ → Option (List ℕ)
after_key [] q = Some q
after_key (x ∷ xs) [] = None
after_key (x ∷ xs) (y ∷ ys) = if x == y then after_key xs ys else None

-- the file or directory itself, or below it
unfoldable pub name_within : Option (List ℕ) → Bool
name_within None = false
name_within (Some []) = true
name_within (Some (c ∷ cs)) = c == 92

-- the key with the new front, or as it was
unfoldable pub moved_key : Bool → List ℕ → Option (List ℕ) → List ℕ → List ℕ
moved_key b to None key = key
moved_key b to (Some rest) key = if b then to ++ rest else key

-- ---- the names of a rename

abbrev pub IsMovedName : NewName → List ℕ → Bool → Type 0
IsMovedName n path directory = (n.path ≡ path) × (string_bytes n.key ≡ folded path)
    × (directory ≡ true → string_bytes n.below ≡ below_key path)

-- the name of a file that is the renamed one or below it, behind the new front
abbrev pub IsNameOf : NewName → Option (List ℕ) → Bool → List ℕ → List ℕ → Type 0
IsNameOf n None directory old to = ⊥
IsNameOf n (Some p) directory old to = (name_within (after_key (folded old) (folded p)) ≡ true)
    × IsMovedName n (moved_path old to p) directory

abbrev pub AreMovedNames : List NewName → List model.Entry → (ℕ → Bool) → List ℕ → List ℕ → Type 0
AreMovedNames [] es directory old to = ⊤
AreMovedNames (n ∷ ns) es directory old to = IsNameOf n (path_at es n.file) (directory n.file) old to × AreMovedNames ns es directory old to

abbrev pub has_name : List NewName → ℕ → Bool
has_name [] f = false
has_name (n ∷ ns) f = if n.file == f then true else has_name ns f

abbrev pub same_file : Option ℕ → ℕ → Bool
same_file None f = false
same_file (Some g) f = g == f

-- each file that has the old front has a name
abbrev pub IsMovedWhole : List NewName → List model.Entry → List ℕ → Type 0
IsMovedWhole ns es old = (g : ℕ) (p : List ℕ) → path_at es g ≡ Some p → name_within (after_key (folded old) (folded p))
    ≡ true → has_name ns g ≡ true

-- one name more, of a file
abbrev pub IsPushed : List NewName → List NewName → model.Server → ℕ → List ℕ → List ℕ → Type 0
IsPushed was now s f old to = (n : NewName) × (now ≡ was ++ n ∷ []) × (n.file ≡ f) × IsNameOf n (path_at s.entries f) (s.directory f) old to

-- these files are there with the old front
abbrev pub AreWithin : List ℕ → model.Server → List ℕ → Type 0
AreWithin fs s old = (g : ℕ) → has g fs ≡ true → (exists_in s.entries g ≡ true)
    × (name_within (after_key (folded old) (folded (path_in s.entries g))) ≡ true)

-- a row behind a rename
abbrev pub named_row : NewName → ℕ → Option Row → Option Row
named_row n f o = if f == n.file then option_map (λ (r : Row). record r { path = n.path; key = n.key; below = n.below }) o else o

abbrev pub with_names : List NewName → ℕ → Option Row → Option Row
with_names [] f o = o
with_names (n ∷ ns) f o = with_names ns f (named_row n f o)

-- whether a row has this key
abbrev pub row_key : Option Row → List ℕ → Bool
row_key None q = false
row_key (Some r) q = bytes_eq (string_bytes r.key) q

-- what a key names when a name's key was taken: it stays where it named something
abbrev pub name_taken : NewName → List ℕ → Option ℕ → Option ℕ
name_taken n q found = if bytes_eq (string_bytes n.key) q then (if is_some found then found else Some n.file) else found

-- when it was given back: it names nothing where it was taken
abbrev pub given_back : (ℕ → Option Row) → NewName → List ℕ → Option ℕ → Option ℕ
given_back rows n q found =
    if bytes_eq (string_bytes n.key) q && (same_file found n.file && not (row_key (rows n.file) q)) then None else found

-- when the file moved: the new key names it, the old one nothing
abbrev pub moved_to : (ℕ → Option Row) → NewName → List ℕ → Option ℕ → Option ℕ
moved_to rows n q found =
    if bytes_eq (string_bytes n.key) q then option_map (λ _. n.file) found else if row_key (rows n.file) q then None else found

-- one after the other
abbrev pub one_by_one : (NewName → List ℕ → Option ℕ → Option ℕ) → List NewName → List ℕ → Option ℕ → Option ℕ
one_by_one step [] q found = found
one_by_one step (n ∷ ns) q found = one_by_one step ns q (step n q found)

-- all is as in the state, but that each new key which named nothing names the file that is to have it
pub record Moving (t : Tree) (m : Move) (s : model.Server) (f : ℕ) (to : List ℕ) : Type 0 where
  pub rows : FileShowsRows t s
  pub there : exists_in s.entries f ≡ true
  pub allowed : rename_refusal s f true to ≡ None
  pub replaced_is : m.replaced ≡ target_of f (find s to)
  pub names_are : AreMovedNames m.names.items s.entries s.directory (path_of s f) to
  pub whole : IsMovedWhole m.names.items s.entries (path_of s f)
  pub keys_are : (q : List ℕ) → get_by_text t.paths q ≡ one_by_one name_taken m.names.items q (at_key s.entries q)
