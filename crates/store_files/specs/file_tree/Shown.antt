-- A `Tree` shows the columns of the model's files: entries, the next number, kinds, delete pending, times and bytes.
use Rattle.std.specs.Prelude.{◌≡◌, ◌≤◌, ◌<◌, ℕ, ◌==◌, Bool, true, false, if◌then◌else◌, List, [], ◌∷◌, ◌++◌, length}
use Rattle.std.specs.Prelude.{Option, Some, None, nat_eq, map, is_some, ⊤}
use Rattle.std.specs.HashMap.{get, hash_map_len}
use Rattle.std.specs.BTreeMap.{get_by_text}
use Rattle.std.specs.String.{string_bytes}
use Rattle.std.specs.Str.{bytes_eq}
use Rattle.std.specs.Char.{to_ascii_uppercase}
use Rattle.spec_exchange.specs.State as model
use Rattle.spec_exchange.specs.Commands.{Basic}
use Rattle.spec_exchange.specs.Files.{sizes, times_at}
use Rattle.spec_exchange.specs.Texts.{is_component, leaf_of, begins_with_backslash}
use Rattle.store_files.specs.file_extents.Kept.{IsContent}
use Rattle.store_files.specs.declared.file_tree.row.Row.{Row}
use Rattle.store_files.specs.declared.file_tree.row.Info.{Info}
use Rattle.store_files.specs.declared.file_tree.tree.Tree.{Tree}

-- a path as a key of the index
abbrev pub folded : List ℕ → List ℕ
folded path = map to_ascii_uppercase path

-- what stands below a directory begins so
abbrev pub below_key : List ℕ → List ℕ
below_key path = folded path ++ 92 ∷ []

-- the file whose path in upper case is this
unfoldable pub at_key : List model.Entry → List ℕ → Option ℕ
at_key [] q = None
at_key (e ∷ es) q = if bytes_eq (folded e.path) q then Some e.file else at_key es q

-- the path of a number, where it stands
unfoldable pub path_at : List model.Entry → ℕ → Option (List ℕ)
path_at [] f = None
path_at (e ∷ es) f = if e.file == f then Some e.path else path_at es f

-- no two entries have a number or a key in common
abbrev pub FileApart : List model.Entry → Type 0
FileApart [] = ⊤
FileApart (e ∷ es) = (at_key es (folded e.path) ≡ None) × (path_at es e.file ≡ None) × FileApart es

-- what stands there is a directory
abbrev pub IsHouse : Option ℕ → (ℕ → Bool) → Type 0
IsHouse None directory = ⊥
IsHouse (Some f) directory = directory f ≡ true

-- each name is one of a path, and no path begins with a backslash
abbrev pub AllPlain : List model.Entry → Type 0
AllPlain [] = ⊤
AllPlain (e ∷ es) = (is_component (leaf_of e.path) ≡ true) × (begins_with_backslash e.path ≡ false) × AllPlain es

-- a row of this kind, delete pending, times and bytes
pub record FileRowIs (r : Row) (directory delete_pending : Bool) (basic : Basic) (content : List ℕ) : Type 0 where
  pub key_is : string_bytes r.key ≡ folded r.path
  pub below_is : (length r.path == 0) ≡ false → r.directory ≡ true → string_bytes r.below ≡ below_key r.path
  pub directory_is : directory ≡ r.directory
  pub delete_pending_is : delete_pending ≡ r.delete_pending
  pub basic_is : basic ≡ r.basic
  pub content_is : IsContent r.bytes content

-- what a number says of the columns at it; of a file that is gone only that no entry names it
abbrev pub FileRowShown : Option Row → Option (List ℕ) → Bool → Bool → Basic → List ℕ → Type 0
FileRowShown None path directory delete_pending basic content = path ≡ None
FileRowShown (Some r) path directory delete_pending basic content = (path ≡ Some r.path)
    × FileRowIs r directory delete_pending basic content

-- all but the index of paths
pub record RowsShown (t : Tree) (entries : List model.Entry) (next_file : ℕ) (directory delete_pending : ℕ → Bool)
    (basic : ℕ → Basic) (content : ℕ → List ℕ) (room : ℕ) : Type 0 where
  pub apart : FileApart entries
  pub fresh : (f : ℕ) → next_file ≤ f → path_at entries f ≡ None
  pub above : 0 < next_file
  pub no_root : path_at entries 0 ≡ None
  pub no_empty : at_key entries [] ≡ None
  -- whatever stands below a path has a directory there
  pub housed : (a b : List ℕ) → is_some (at_key entries (a ++ 92 ∷ b)) ≡ true → IsHouse (at_key entries a) directory
  pub plain : AllPlain entries
  pub root_path : t.root.path ≡ []
  pub root_below : string_bytes t.root.below ≡ []
  pub root_is : FileRowIs t.root true (delete_pending 0) (basic 0) (content 0)
  pub rows_are : (f : ℕ) → FileRowShown (get nat_eq t.rows f) (path_at entries f) (directory f) (delete_pending f) (basic f) (content f)
  pub count_is : length entries ≡ hash_map_len t.rows
  pub next_is : next_file ≡ t.next
  pub used_is : sizes content entries ≡ t.used
  pub room_is : room ≡ t.room

pub record FilesShown (t : Tree) (entries : List model.Entry) (next_file : ℕ) (directory delete_pending : ℕ → Bool)
    (basic : ℕ → Basic) (content : ℕ → List ℕ) (room : ℕ) : Type 0 where
  pub rows : RowsShown t entries next_file directory delete_pending basic content room
  pub keys_are : (q : List ℕ) → get_by_text t.paths q ≡ at_key entries q

abbrev pub FileShowsRows : Tree → model.Server → Type 0
FileShowsRows t s = RowsShown t s.entries s.next_file s.directory s.delete_pending s.basic s.content s.room

abbrev pub ShowsFiles : Tree → model.Server → Type 0
ShowsFiles t s = FilesShown t s.entries s.next_file s.directory s.delete_pending s.basic s.content s.room

-- a share in which nothing was made yet
pub record FileBegins (s : model.Server) : Type 0 where
  pub entries : s.entries ≡ []
  pub next_file : s.next_file ≡ 1
  pub delete_pending : s.delete_pending 0 ≡ false
  pub basic : s.basic 0 ≡ times_at 0 0
  pub content : s.content 0 ≡ []

-- the row of a file or of the root
abbrev pub RowOrRoot : Bool → Option Row → model.Server → ℕ → Type 0
RowOrRoot true None s f = ⊥
RowOrRoot true (Some r) s f = (r.path ≡ []) × FileRowIs r true (s.delete_pending 0) (s.basic 0) (s.content 0) × (string_bytes r.below ≡ [])
RowOrRoot false r s f = FileRowShown r (path_at s.entries f) (s.directory f) (s.delete_pending f) (s.basic f) (s.content f)

abbrev pub FileRowFound : Option Row → model.Server → ℕ → Type 0
FileRowFound r s f = RowOrRoot (f == 0) r s f

-- ---- what is known of a file

abbrev pub model_info : Info → model.Info
model_info i = record { file = i.file; is_directory = i.directory; size = i.length; is_delete_pending = i.marked; times = i.basic }

pub record InfoIs (i : Info) (file : ℕ) (r : Row) : Type 0 where
  pub file_is : i.file ≡ file
  pub directory_is : i.directory ≡ r.directory
  pub length_is : (c : List ℕ) → IsContent r.bytes c → i.length ≡ length c
  pub marked_is : i.marked ≡ r.delete_pending
  pub basic_is : i.basic ≡ r.basic
