-- A file that is about to be made: its row, and a table in which its key already names the next number.
use Rattle.std.specs.Prelude.{◌≡◌, ◌+◌, ◌<◌, ◌^◌, ◌==◌, ℕ, Bool, true, false, if◌then◌else◌, List, [], length, Some, None}
use Rattle.std.specs.HashMap.{spare}
use Rattle.std.specs.BTreeMap.{get_by_text}
use Rattle.std.specs.Str.{bytes_eq}
use Rattle.spec_exchange.specs.State.{Server}
use Rattle.spec_exchange.specs.Commands.{path_form}
use Rattle.spec_exchange.specs.Files.{times_at, has_parent}
use Rattle.store_files.specs.declared.file_tree.row.Row.{Row}
use Rattle.store_files.specs.declared.file_tree.make.NewFile.{NewFile}
use Rattle.store_files.specs.declared.file_tree.tree.Tree.{Tree}
use Rattle.store_files.specs.file_tree.Shown.{folded, at_key, FileRowIs, FileShowsRows}

-- the row of a new file, whose times are all one
pub record IsFileNewRow (r : Row) (path : List ℕ) (directory : Bool) (attributes now : ℕ) : Type 0 where
  pub path_is : r.path ≡ path
  pub row_is : FileRowIs r directory false (times_at now attributes) []

-- there is room for a row more, and a number
pub record IsFileReady (t : Tree) : Type 0 where
  pub room : 0 < spare t.rows
  pub number : t.next + 1 < 2 ^ 64

-- all is as in the state, but for the key of the new path
pub record Prepared (t : Tree) (n : NewFile) (s : Server) (path : List ℕ) (directory : Bool) (attributes now : ℕ) : Type 0 where
  pub rows : FileShowsRows t s
  pub free : at_key s.entries (folded path) ≡ None
  pub named : (length path == 0) ≡ false
  pub form : path_form path ≡ None
  pub parent : has_parent s path ≡ true
  pub keys_are : (q : List ℕ) → get_by_text t.paths q ≡ (if bytes_eq (folded path) q then Some t.next else at_key s.entries q)
  pub row_is : IsFileNewRow n.row path directory attributes now
