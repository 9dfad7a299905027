-- Why a file is not made or not taken away, in the order in which a CREATE is checked (MS-SMB2 3.3.5.9, MS-FSA 2.1.5.1.1).
use Rattle.std.specs.Prelude.{◌≡◌, ℕ, ◌==◌, nat_le, nat_lt, ◌||◌, if◌then◌else◌, List, length, Option, Some, None, is_some}
use Rattle.spec_exchange.specs.Status.{access_denied, end_of_file, disk_full, object_path_not_found}
use Rattle.spec_exchange.specs.Status.{object_name_collision, insufficient_resources}
use Rattle.spec_exchange.specs.State.{Server}
use Rattle.spec_exchange.specs.Content.{past_end, Read}
use Rattle.spec_exchange.specs.Commands.{path_form}
use Rattle.spec_exchange.specs.Files.{root, find, has_parent, is_full_directory, passes_room}
use Rattle.store_files.specs.declared.file_tree.error.StoreError.{StoreError}
use Rattle.store_files.specs.declared.file_tree.error.StoreError.TheVariants.{Memory, Status}

-- what stands at the path; then at most 65,536 files and directories, whose numbers end at 2^64 - 2; then its directory
abbrev pub place_refusal : Server → List ℕ → Option ℕ
place_refusal s path =
    if is_some (find s path) then Some object_name_collision
    else if nat_le 65536 (length s.entries) || nat_lt 0xffff_ffff_ffff_fffe s.next_file then Some insufficient_resources
    else if has_parent s path then None else Some object_path_not_found

abbrev pub form_first : Option ℕ → Option ℕ → Option ℕ
form_first (Some status) place = Some status
form_first None place = place

abbrev pub make_refusal : Server → List ℕ → Option ℕ
make_refusal s path = form_first (path_form path) (place_refusal s path)

-- the root stays, and so does a directory in which something stands
abbrev pub remove_refusal : Server → ℕ → Option ℕ
remove_refusal s f = if f == root then Some access_denied else if is_full_directory s f then Some 0xc000_0101 else None

-- a read of some bytes from the end on (MS-FSA 2.1.5.3)
abbrev pub read_refusal : Server → ℕ → ℕ → ℕ → Option ℕ
read_refusal s f at size = if past_end (Read at size) (s.content f) then Some end_of_file else None

-- a file that grows past the room (MS-FSA 2.1.5.4)
abbrev pub room_refusal : Server → ℕ → ℕ → Option ℕ
room_refusal s f size = if passes_room s f size then Some disk_full else None

-- a refusal tells the status of the rule; that memory ran out tells none
abbrev pub StoreTells : StoreError → Option ℕ → Type 0
StoreTells Memory refusal = refusal ≡ None
StoreTells (Status status) refusal = refusal ≡ Some status

-- a refusal that takes no memory tells the status of the rule
abbrev pub StoreRefuses : StoreError → Option ℕ → Type 0
StoreRefuses Memory refusal = ⊥
StoreRefuses (Status status) refusal = refusal ≡ Some status
