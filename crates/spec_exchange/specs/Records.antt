-- The journal (this project's): how many bytes a record takes, and what fits below the limit.
use Rattle.std.specs.Prelude.{ℕ, ◌+◌, ◌-◌, ◌*◌, nat_le, Bool, true, List, [], ◌∷◌, length, Option, Some, None}
use Rattle.spec_exchange.specs.Texts.{utf16_length}
use Rattle.spec_exchange.specs.State.{Server, Message, Origin, Record, NewOpen, EpochRecord, CreateRecord, WriteRecord}
use Rattle.spec_exchange.specs.State.{EndRecord, BasicRecord, DeleteRecord, RenameRecord, RemoveRecord, LockRecord}
use Rattle.spec_exchange.specs.State.{CloseRecord, VersionRecord, ExpireRecord}

abbrev pub origin_of : Message → Origin
origin_of m = record { session = m.session_id; connection = m.connection; message = m.message_id }

-- where no message caused it
abbrev pub origin_at : ℕ → Origin
origin_at k = record { session = 0; connection = k; message = 0 }

-- a text is UTF-16 behind a length of 2 bytes
unfoldable pub text_size : List ℕ → ℕ
text_size text = 2 + 2 * utf16_length text

unfoldable pub opened_size : Option NewOpen → ℕ
opened_size None = 1
opened_size (Some n) = 1 + 8 + 16 + 16 + text_size n.user + 4 + 4 + 4 + 4

-- a kind of 1 byte, then an origin of 20 where there is one, then the fields
unfoldable pub record_size : Record → ℕ
record_size (EpochRecord number) = 5
record_size (CreateRecord origin action file path attributes is_dir time opened) = 21 + 4 + 8 + text_size path + 4 + 1
    + 8 + opened_size opened
record_size (WriteRecord origin file at time bytes) = 21 + 8 + 8 + 8 + 4 + length bytes
record_size (EndRecord origin file size time) = 21 + 8 + 8 + 8
record_size (BasicRecord origin file basic) = 21 + 8 + 32 + 4
record_size (DeleteRecord origin file delete_pending) = 21 + 8 + 1
record_size (RenameRecord origin file replaced path) = 21 + 8 + 8 + text_size path
record_size (RemoveRecord origin file) = 21 + 8
record_size (LockRecord origin id index number status elements) = 21 + 8 + 1 + 1 + 4 + 2 + 24 * length elements
record_size (CloseRecord origin id) = 21 + 8
record_size (VersionRecord number) = 5
record_size (ExpireRecord origin id) = 21 + 8

unfoldable pub records_size : List Record → ℕ
records_size [] = 0
records_size (r ∷ rs) = record_size r + records_size rs

-- one body: its length in 4 bytes, itself, and the next gate
unfoldable pub entry_bytes : List Record → ℕ
entry_bytes [] = 0
entry_bytes (r ∷ rs) = 5 + records_size (r ∷ rs)

-- the lower limit, for all but what a start writes
abbrev pub lower_limit : ℕ
lower_limit = 1073741824 - 134217728

-- an event without a record always fits
unfoldable pub fits : Server → List Record → Bool
fits s [] = true
fits s (r ∷ rs) = nat_le (s.journal + entry_bytes (r ∷ rs)) s.limit
