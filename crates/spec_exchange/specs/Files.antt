-- The files of the share: paths, times, delete pending and bytes (MS-FSA 2.1.1.3 to 2.1.1.5).
use Rattle.std.specs.Prelude.{ℕ, ◌+◌, ◌-◌, ◌==◌, nat_lt, min, Bool, true, false, ◌&&◌, ◌||◌, if◌then◌else◌, List, []}
use Rattle.std.specs.Prelude.{◌∷◌, ◌++◌, length, Option, Some, None, not, nat_le, bit_and, bit_or}
use Rattle.spec_exchange.specs.Table.{put}
use Rattle.spec_exchange.specs.Texts.{same_name, is_below, parent_of, after_name}
use Rattle.spec_exchange.specs.Commands.{Basic, has_bit}
use Rattle.spec_exchange.specs.State.{Server, Entry, Info}

abbrev pub root : ℕ
root = 0

-- ---- finding

unfoldable pub find_in : List Entry → List ℕ → Option ℕ
find_in [] path = None
find_in (e ∷ es) path = if same_name e.path path then Some e.file else find_in es path

-- the file or directory of a path, by ASCII case
unfoldable pub find : Server → List ℕ → Option ℕ
find s [] = Some root
find s (c ∷ cs) = find_in s.entries (c ∷ cs)

unfoldable pub path_in : List Entry → ℕ → List ℕ
path_in [] f = []
path_in (e ∷ es) f = if e.file == f then e.path else path_in es f

unfoldable pub path_of : Server → ℕ → List ℕ
path_of s f = path_in s.entries f

unfoldable pub exists_in : List Entry → ℕ → Bool
exists_in [] f = false
exists_in (e ∷ es) f = if e.file == f then true else exists_in es f

-- the root is always there
unfoldable pub exists : Server → ℕ → Bool
exists s f = (f == root) || exists_in s.entries f

unfoldable pub is_directory : Server → ℕ → Bool
is_directory s f = (f == root) || s.directory f

unfoldable pub is_found_directory : Server → Option ℕ → Bool
is_found_directory s None = false
is_found_directory s (Some f) = is_directory s f

-- the directory in which the path would stand is there
unfoldable pub has_parent : Server → List ℕ → Bool
has_parent s path = is_found_directory s (find s (parent_of path))

unfoldable pub is_found_pending : Server → Option ℕ → Bool
is_found_pending s None = false
is_found_pending s (Some f) = s.delete_pending f

-- the directory in which the path would stand is delete pending
unfoldable pub has_pending_parent : Server → List ℕ → Bool
has_pending_parent s path = is_found_pending s (find s (parent_of path))

unfoldable pub has_below : List Entry → List ℕ → Bool
has_below [] path = false
has_below (e ∷ es) path = if is_below path e.path then true else has_below es path

-- a directory in which something stands
unfoldable pub is_full_directory : Server → ℕ → Bool
is_full_directory s f = is_directory s f && has_below s.entries (path_of s f)

-- FILE_ATTRIBUTE_READONLY (MS-FSCC 2.6) forbids nothing of a directory
unfoldable pub is_read_only : Server → ℕ → Bool
is_read_only s f = exists s f && (not (is_directory s f) && has_bit (s.basic f).attributes 0x1)

unfoldable pub info_of : Server → ℕ → Info
info_of s f = record {
  file = f;
  is_directory = is_directory s f;
  size = length (s.content f);
  is_delete_pending = s.delete_pending f;
  times = s.basic f;
}

-- ---- room

unfoldable pub sizes : (ℕ → List ℕ) → List Entry → ℕ
sizes content [] = 0
sizes content (e ∷ es) = length (content e.file) + sizes content es

-- the sum of the files' lengths
unfoldable pub used : Server → ℕ
used s = sizes s.content s.entries

-- the file of this length would pass the room
unfoldable pub passes_room : Server → ℕ → ℕ → Bool
passes_room s f size = nat_lt s.room ((used s - length (s.content f)) + size) && nat_lt (length (s.content f)) size

-- ---- changes

unfoldable pub times_at : ℕ → ℕ → Basic
times_at now attributes = record { created = now; accessed = now; written = now; changed = now; attributes = attributes }

unfoldable pub touched : Basic → ℕ → Basic
touched b now = record b { written = now; changed = now }

-- ---- attributes (MS-FSCC 2.6)

-- of a file that a CREATE makes or empties: READONLY, HIDDEN, SYSTEM, ARCHIVE, TEMPORARY, OFFLINE and NOT_CONTENT_INDEXED, as
-- asked, and ARCHIVE always (MS-FSA 2.1.5.1.1, 2.1.5.1.2.1)
unfoldable pub file_attributes : ℕ → ℕ
file_attributes asked = bit_or (bit_and asked 0x3127) 0x20

-- of a directory: as asked, without ARCHIVE and NORMAL
unfoldable pub directory_attributes : ℕ → ℕ
directory_attributes asked = bit_and asked 0xffff_ff5f

-- 0 stays; NORMAL, alone, takes all of them away
unfoldable pub set_attributes : ℕ → ℕ → ℕ
set_attributes old asked = if asked == 0 then old else if asked == 0x80 then 0 else asked

-- no directory can be made TEMPORARY, and no file a DIRECTORY
unfoldable pub may_set_attributes : Bool → ℕ → Bool
may_set_attributes is_dir asked = not (has_bit asked (if is_dir then 0x100 else 0x10))

-- ---- times: 0, -1 and -2, of 64 bits with a sign, stay (MS-FSCC 2.4.7), and none is below -2

unfoldable pub set_time : ℕ → ℕ → ℕ
set_time old time = if time == 0 then old else if nat_le 0xffff_ffff_ffff_fffe time then old else time

unfoldable pub may_set_time : ℕ → Bool
may_set_time time = nat_lt time 0x8000_0000_0000_0000 || nat_le 0xffff_ffff_ffff_fffe time

unfoldable pub may_set_times : Basic → Bool
may_set_times b = may_set_time b.created
    && (may_set_time b.accessed && (may_set_time b.written && may_set_time b.changed))

unfoldable pub set_basic : Basic → Basic → Basic
set_basic old b =
    record {
      created = set_time old.created b.created;
      accessed = set_time old.accessed b.accessed;
      written = set_time old.written b.written;
      changed = set_time old.changed b.changed;
      attributes = set_attributes old.attributes b.attributes;
    }

-- a new file or directory of the next number
abbrev pub make_file : Server → List ℕ → Bool → ℕ → ℕ → Server
make_file s path is_dir attributes now =
    record s {
      entries = s.entries ++ record { file = s.next_file; path = path } ∷ [];
      next_file = s.next_file + 1;
      directory = put s.directory s.next_file is_dir;
      delete_pending = put s.delete_pending s.next_file false;
      basic = put s.basic s.next_file (times_at now attributes);
      content = put s.content s.next_file [];
      ranges = put s.ranges s.next_file [];
    }

abbrev pub set_content : Server → ℕ → List ℕ → ℕ → Server
set_content s f bytes now = record s { content = put s.content f bytes; basic = put s.basic f (touched (s.basic f) now) }

-- a create that empties a file gives it these attributes (MS-FSA 2.1.5.1.2.1)
unfoldable pub emptied_basic : Basic → ℕ → ℕ → Basic
emptied_basic b attributes now = record b { written = now; changed = now; attributes = attributes }

abbrev pub empty_file : Server → ℕ → ℕ → ℕ → Server
empty_file s f attributes now = record s { content = put s.content f []; basic = put s.basic f (emptied_basic (s.basic f) attributes now) }

abbrev pub set_delete_pending : Server → ℕ → Bool → Server
set_delete_pending s f flag = record s { delete_pending = put s.delete_pending f flag }

abbrev pub store_basic : Server → ℕ → Basic → Server
store_basic s f b = record s { basic = put s.basic f b }

unfoldable pub without_file : ℕ → List Entry → List Entry
without_file f [] = []
without_file f (e ∷ es) = if e.file == f then without_file f es else e ∷ without_file f es

abbrev pub remove_file : Server → ℕ → Server
remove_file s f = record s { entries = without_file f s.entries }

-- the path of the renamed file, and of each file below it, begins anew
unfoldable pub path_behind : List ℕ → List ℕ → List ℕ → Option (List ℕ) → List ℕ
path_behind old to path None = path
path_behind old to path (Some rest) = if same_name old path then to else if is_below old path then to ++ rest else path

unfoldable pub moved_path : List ℕ → List ℕ → List ℕ → List ℕ
moved_path old to path = path_behind old to path (after_name old path)

unfoldable pub moved_entry : List ℕ → List ℕ → Entry → Entry
moved_entry old to e = record e { path = moved_path old to e.path }

unfoldable pub moved_entries : List ℕ → List ℕ → List Entry → List Entry
moved_entries old to [] = []
moved_entries old to (e ∷ es) = moved_entry old to e ∷ moved_entries old to es

-- the file that stood at the new path goes
unfoldable pub without_target : Option ℕ → List Entry → List Entry
without_target None es = es
without_target (Some t) es = without_file t es

abbrev pub rename_file : Server → ℕ → Option ℕ → List ℕ → Server
rename_file s f replaced to = record s { entries = moved_entries (path_of s f) to (without_target replaced s.entries) }

-- ---- whether a change changes anything

unfoldable pub same_basic : Basic → Basic → Bool
same_basic a b = (a.created == b.created)
    && ((a.accessed == b.accessed)
    && ((a.written == b.written) && ((a.changed == b.changed) && (a.attributes == b.attributes))))

-- the size that an allocation leaves: it may cut the file and never extends it (MS-FSA 2.1.5.15.1)
unfoldable pub allocated : ℕ → ℕ → ℕ
allocated size old = min size old
