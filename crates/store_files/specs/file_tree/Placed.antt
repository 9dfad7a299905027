-- Files that a snapshot tells, put back at their numbers, and the order in which one tells them.
use Rattle.std.specs.Prelude.{◌≡◌, ℕ, ◌+◌, ◌<◌, ◌==◌, nat_lt, nat_le, Bool, true, false, not, ◌&&◌, if◌then◌else◌}
use Rattle.std.specs.Prelude.{List, [], ◌∷◌, ◌++◌, length, Some, is_some, ⊤}
use Rattle.std.specs.BTreeMap.{get_by_text}
use Rattle.std.specs.Str.{bytes_eq}
use Rattle.spec_exchange.specs.Table.{put, has}
use Rattle.spec_exchange.specs.Texts.{is_component, leaf_of, parent_of, begins_with_backslash}
use Rattle.spec_exchange.specs.Content.{written, ended, is_empty}
use Rattle.spec_exchange.specs.State.{Server, Entry}
use Rattle.spec_exchange.specs.Files.{root, find, exists_in, has_parent, path_of, used}
use Rattle.store_files.specs.declared.file_tree.placing.PlacedFile.{PlacedFile}
use Rattle.store_files.specs.declared.file_tree.row.Row.{Row}
use Rattle.store_files.specs.declared.file_tree.tree.Tree.{Tree}
use Rattle.store_files.specs.file_tree.Shown.{ShowsFiles, FileShowsRows, FileRowIs, folded, at_key}
use Rattle.store_files.specs.file_tree.Bytes.{with_content}

-- ---- a file that is put back

-- a path that a file may have; behind a directory's new name it may be longer than a request's
abbrev pub is_placeable : List ℕ → Bool
is_placeable path = is_component (leaf_of path) && not (begins_with_backslash path)

-- a number that was given and that no file has
abbrev pub has_free_number : Server → ℕ → Bool
has_free_number s f = nat_lt 0 f && (nat_lt f s.next_file && not (exists_in s.entries f))

-- nothing stands at the path, and its directory is there
abbrev pub has_free_path : Server → List ℕ → Bool
has_free_path s path = is_placeable path && (not (is_some (find s path)) && has_parent s path)

-- and all lengths together are a number of 64 bits
abbrev pub may_be_placed : Server → ℕ → List ℕ → ℕ → Bool
may_be_placed s f path size = has_free_number s f && (has_free_path s path && nat_lt (used s + size) 0x1_0000_0000_0000_0000)

-- the entries with one more, anywhere among them
abbrev pub IsOneMore : Entry → List Entry → List Entry → Type 0
IsOneMore e es more = (front : List Entry) × (back : List Entry) × (es ≡ front ++ back) × (more ≡ front ++ e ∷ back)

-- a file of so many zeros at its number
abbrev pub placed_among : Server → List Entry → PlacedFile → Server
placed_among s more p = record s {
  entries = more;
  directory = put s.directory p.file p.directory;
  delete_pending = put s.delete_pending p.file p.pending;
  basic = put s.basic p.file p.basic;
  content = put s.content p.file (ended p.size []);
}

abbrev pub PlacedIf : Bool → Tree → Server → List ℕ → PlacedFile → Type 0
PlacedIf true t s path p = (more : List Entry) → IsOneMore (record { file = p.file; path = path }) s.entries more
    → ShowsFiles t (placed_among s more p)
PlacedIf false t s path p = ShowsFiles t s

-- its row
pub record IsPlacedRow (r : Row) (path : List ℕ) (p : PlacedFile) : Type 0 where
  pub path_is : r.path ≡ path
  pub row_is : FileRowIs r p.directory p.pending p.basic (ended p.size [])

-- all is as in the state, but that the key of the path names the number
pub record IsPathTaken (t : Tree) (s : Server) (path : List ℕ) (f : ℕ) : Type 0 where
  pub rows : FileShowsRows t s
  pub keys_are : (q : List ℕ) → get_by_text t.paths q ≡ (if bytes_eq (folded path) q then Some f else at_key s.entries q)

-- ---- bytes that are put back: some, within the length of their file

abbrev pub may_have_bytes : Server → ℕ → ℕ → List ℕ → Bool
may_have_bytes s f at bytes = exists_in s.entries f && (not (is_empty bytes) && nat_le (at + length bytes) (length (s.content f)))

abbrev pub with_bytes : Server → ℕ → ℕ → List ℕ → Server
with_bytes s f at bytes = with_content s f (written at bytes (s.content f))

-- ---- the order in which files are told

-- no number stands twice
abbrev pub Once : List ℕ → Type 0
Once [] = ⊤
Once (x ∷ xs) = (has x xs ≡ false) × Once xs

-- each file and directory once, the directory in which it stands before it; and of the state what lets them be put back so
pub record IsPathOrder (order : List ℕ) (s : Server) : Type 0 where
  pub each : (f : ℕ) → has f order ≡ exists_in s.entries f
  pub once : Once order
  pub behind_parent : (front back : List ℕ) (f d : ℕ) → order ≡ front ++ f ∷ back → find s (parent_of (path_of s f)) ≡ Some d
      → (d == root) ≡ false → has d front ≡ true
  pub named : (f : ℕ) → exists_in s.entries f ≡ true → find s (path_of s f) ≡ Some f
  pub placeable : (f : ℕ) → exists_in s.entries f ≡ true → is_placeable (path_of s f) ≡ true
  pub housed : (f : ℕ) → exists_in s.entries f ≡ true → has_parent s (path_of s f) ≡ true
  pub small : used s < 0x1_0000_0000_0000_0000
