-- Opens: access, sharing, ids, and what leaves the table with one (MS-SMB2 3.3.1.10, MS-FSA 2.1.5.1.2.2 and 2.1.5.5).
use Rattle.std.specs.Prelude.{ℕ, ◌+◌, ◌*◌, ◌%◌, ◌==◌, Bool, true, false, not, ◌&&◌, ◌||◌, if◌then◌else◌, List, [], ◌∷◌}
use Rattle.std.specs.Prelude.{◌++◌, Option, Some, None, bit_and, bit_or}
use Rattle.spec_exchange.specs.Table.{put, put2, without, placed_in, is_at, is_filled}
use Rattle.spec_exchange.specs.Commands.{has_bit, deletes_on_close}
use Rattle.spec_exchange.specs.State.{Server, Open, Record, Origin, DeleteRecord, RemoveRecord, CloseRecord}
use Rattle.spec_exchange.specs.Ranges.{without_owner}
use Rattle.spec_exchange.specs.Files.{root, exists, is_read_only, is_full_directory, set_delete_pending, remove_file}

-- ids of one epoch are the epoch times 2 ^ 32 and a counter from 1
abbrev pub id_of : ℕ → ℕ → ℕ
id_of epoch counter = epoch * 0x1_0000_0000 + counter

abbrev pub max_ids : ℕ
max_ids = 0xffff_ffff

-- ---- access (MS-SMB2 2.2.13.1)

unfoldable pub bits_if : Bool → ℕ → ℕ
bits_if true bits = bits
bits_if false bits = 0

-- generic access as what it stands for
unfoldable pub mapped : ℕ → ℕ
mapped a =
    bit_or (a % 0x200_0000)
    (bit_or (bits_if (has_bit a 0x8000_0000) 0x12_0089) (bit_or (bits_if (has_bit a 0x4000_0000) 0x12_0116)
    (bit_or (bits_if (has_bit a 0x2000_0000) 0x12_00a0) (bits_if (has_bit a 0x1000_0000 || has_bit a 0x200_0000)
    0x1f_01ff))))

-- the same of a read-only file, whose maximal access has neither FILE_WRITE_DATA nor FILE_APPEND_DATA: MAXIMUM_ALLOWED,
-- 0x200_0000, leaves them out (MS-FSA 2.1.5.1.2.1)
unfoldable pub mapped_read_only : ℕ → ℕ
mapped_read_only a = if has_bit a 0x200_0000 then bit_or (mapped (bit_and a 0xfdff_ffff)) 0x1f_01f9 else mapped a

-- the access that a CREATE asks of this file, as of one that it makes
unfoldable pub granted : Server → ℕ → ℕ → ℕ
granted s f access = if is_read_only s f then mapped_read_only access else mapped access

unfoldable pub reads : ℕ → Bool
reads access = has_bit access 0x1 || has_bit access 0x20

unfoldable pub writes : ℕ → Bool
writes access = has_bit access 0x2 || has_bit access 0x4

unfoldable pub deletes : ℕ → Bool
deletes access = has_bit access 0x1_0000

-- ---- sharing

-- each way of access is among those shared
unfoldable pub is_shared : ℕ → ℕ → Bool
is_shared access share = (not (reads access) || has_bit share 0x1) && ((not (writes access) || has_bit share 0x2)
    && (not (deletes access) || has_bit share 0x4))

-- the share access lacks writing
unfoldable pub denies_writers : ℕ → Bool
denies_writers share = not (has_bit share 0x2)

-- the opens of a file
unfoldable pub opens_in : (ℕ → Open) → List ℕ → ℕ → List ℕ
opens_in opened [] f = []
opens_in opened (o ∷ os) f = if (opened o).file == f then o ∷ opens_in opened os f else opens_in opened os f

abbrev pub opens_of : Server → ℕ → List ℕ
opens_of s f = opens_in s.opened s.opens f

-- in both directions, whether or not the other's session is gone
unfoldable pub admits : (ℕ → Open) → List ℕ → ℕ → ℕ → Bool
admits opened [] access share = true
admits opened (o ∷ os) access share = is_shared access (opened o).share
    && (is_shared (opened o).access share && admits opened os access share)

unfoldable pub file_has_open : Server → ℕ → Bool
file_has_open s f = is_filled (opens_of s f)

-- ---- the table

-- the open stands in this session
abbrev pub is_of_session : Server → ℕ → ℕ → Bool
is_of_session s o session = s.standing o && is_at session (s.session_of_open o)

-- and was made or attached there under this tree
abbrev pub is_of_tree : Server → ℕ → ℕ → ℕ → Bool
is_of_tree s o session tree = is_of_session s o session && (s.tree_of_open o == tree)

abbrev pub with_guid : (ℕ → ℕ → Option ℕ) → ℕ → Option ℕ → Option ℕ → ℕ → ℕ → Option ℕ
with_guid by client None o = by
with_guid by client (Some g) o = put2 by client g o

-- a new open stands, with the sequence of its create, at position 0, and no slot, listing or range
abbrev pub add_open : Server → ℕ → Open → Option ℕ → ℕ → Server
add_open s o row session sequence =
    record s {
      opens = placed_in o s.opens;
      standing = put s.standing o true;
      opened = put s.opened o row;
      session_of_open = put s.session_of_open o session;
      sequence = put s.sequence o sequence;
      deadline = put s.deadline o None;
      enumeration_location = put s.enumeration_location o None;
      current_byte_offset = put s.current_byte_offset o 0;
      lock_sequences = put s.lock_sequences o (λ i. None);
      by_guid = with_guid s.by_guid row.client_guid row.create_guid (Some o);
    }

-- the open leaves, with its ranges; its guid names no open
abbrev pub drop_open : Server → ℕ → Server
drop_open s o =
    record s {
      opens = without o s.opens;
      standing = put s.standing o false;
      session_of_open = put s.session_of_open o None;
      deadline = put s.deadline o None;
      by_guid = with_guid s.by_guid (s.opened o).client_guid (s.opened o).create_guid None;
      ranges = put s.ranges (s.opened o).file (without_owner o (s.ranges (s.opened o).file));
    }

-- ---- files that go with their last open

-- delete pending, without an open, and no directory in which something stands
unfoldable pub goes : Server → ℕ → Bool
goes s f = s.delete_pending f && (not (f == root) && (exists s f && (not (file_has_open s f) && not (is_full_directory s f))))

abbrev pub without_gone : Server → ℕ → Server
without_gone s f = if goes s f then remove_file s f else s

-- the same of a directory in which something stands: it can't go
unfoldable pub is_kept_back : Server → ℕ → Bool
is_kept_back s f = s.delete_pending f && (not (f == root) && (exists s f && (not (file_has_open s f) && is_full_directory s f)))

-- where an open left, its file goes if it is delete pending; if it can't go, it is delete pending no longer
abbrev pub left_file : Server → ℕ → Server
left_file s f = if is_kept_back s f then set_delete_pending s f false else without_gone s f

-- an open that deletes on close makes its file delete pending where it leaves
abbrev pub pending_behind : Server → ℕ → Server
pending_behind s o = if deletes_on_close (s.opened o).options then set_delete_pending s (s.opened o).file true else s

-- the open leaves, and its file with it where it goes; a directory that can't go loses its mark
abbrev pub leave_open : Server → ℕ → Server
leave_open s o = left_file (drop_open (pending_behind s o) o) (s.opened o).file

-- its records: that it left, where it is persistent, and what a fold couldn't tell without it
unfoldable pub pending_records : Server → Origin → ℕ → List Record
pending_records s origin o = if not (s.opened o).persistent && (deletes_on_close (s.opened o).options
    && not (s.delete_pending (s.opened o).file)) then DeleteRecord origin (s.opened o).file true ∷ [] else []

unfoldable pub shut_records : Server → Origin → ℕ → List Record
shut_records s origin o = if (s.opened o).persistent then CloseRecord origin o ∷ [] else []

unfoldable pub gone_records : Server → Origin → ℕ → List Record
gone_records s origin f = if goes s f then RemoveRecord origin f ∷ [] else []

-- of its file, behind it: that it went, or that it is delete pending no longer
unfoldable pub left_file_records : Server → Origin → ℕ → List Record
left_file_records s origin f = if is_kept_back s f then DeleteRecord origin f false ∷ [] else gone_records s origin f

unfoldable pub leave_records : Server → Origin → ℕ → List Record
leave_records s origin o = pending_records s origin o
    ++ (shut_records s origin o ++ left_file_records (drop_open (pending_behind s o) o) origin (s.opened o).file)
