-- A file that was taken out, as it stands for one of the model's.
use Rattle.std.specs.Prelude.{◌≡◌, ◌≤◌, ◌<◌, ◌^◌, ℕ, true, List, [], ◌++◌, ◌∷◌, Option, Some, None, is_some}
use Rattle.std.specs.String.{string_bytes}
use Rattle.spec_exchange.specs.State as model
use Rattle.spec_exchange.specs.Files.{sizes}
use Rattle.store_files.specs.file_tree.Shown.{FileRowIs, FileApart, AllPlain, IsHouse, at_key, path_at, folded}
use Rattle.store_files.specs.declared.file_tree.gone.Gone.{Gone}

-- its row is the one that the file had, its key that of the file's path, and with it the paths stood as they must
pub record IsGone (g : Gone) (s : model.Server) (file : ℕ) : Type 0 where
  pub file_is : g.file ≡ file
  pub key_is : string_bytes g.key ≡ folded g.row.path
  pub path_is : path_at s.entries file ≡ Some g.row.path
  pub row_is : FileRowIs g.row (s.directory file) (s.delete_pending file) (s.basic file) (s.content file)
  pub apart : FileApart s.entries
  pub fresh : (f : ℕ) → s.next_file ≤ f → path_at s.entries f ≡ None
  pub no_root : path_at s.entries 0 ≡ None
  pub no_empty : at_key s.entries [] ≡ None
  pub housed : (a b : List ℕ) → is_some (at_key s.entries (a ++ 92 ∷ b)) ≡ true → IsHouse (at_key s.entries a) s.directory
  pub plain : AllPlain s.entries
  pub used_fits : sizes s.content s.entries < 2 ^ 64

abbrev pub GoneOf : Option Gone → model.Server → ℕ → Type 0
GoneOf None s file = ⊥
GoneOf (Some g) s file = IsGone g s file
