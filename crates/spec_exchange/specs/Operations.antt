-- The operations of a script, what they send and how they settle.
use Rattle.std.specs.Prelude.{ℕ, ◌+◌, ◌-◌, ◌/◌, ◌==◌, nat_le, nat_lt, Bool, true, false, not, ◌&&◌, ◌||◌, if◌then◌else◌}
use Rattle.std.specs.Prelude.{List, [], ◌∷◌, length, Option, Some, None}
use Rattle.spec_exchange.specs.Status.{success}
use Rattle.spec_exchange.specs.Texts.{is_utf8, utf16_length}
use Rattle.spec_exchange.specs.Content.{ContentOp, Still, Write as Writes, Read as Reads, SetEnd as Ends, meets, same_bytes}
use Rattle.spec_exchange.specs.Commands.{Command, Create as CreateCommand, Write as WriteCommand, Read as ReadCommand}
use Rattle.spec_exchange.specs.Commands.{Close, Flush, Lock, ListDirectory, QueryFile, SetInfo, Aside, Basic, Element}
use Rattle.spec_exchange.specs.Commands.{SetBasic, Rename, SetDelete, SetEnd, CreateRequest, Durable, Reconnect}
use Rattle.spec_exchange.specs.State.{Body, Created, Content, Count, Listing, FileInfo, Empty, Named}

-- ---- operations, by their numbers from 1; create is the number of an earlier one

pub data Op : Type 0 where
  OpCreate : (path : List ℕ) (access share disposition : ℕ) (persist directory : Bool) → Op
  OpWrite : (create at : ℕ) (bytes : List ℕ) → Op
  OpRead : (create at size : ℕ) → Op
  OpEnd : (create size : ℕ) → Op
  OpTime : (create time : ℕ) → Op
  OpRename : (create : ℕ) (path : List ℕ) → Op
  OpRemove : (create : ℕ) → Op
  OpLock : (create at length : ℕ) (exclusive : Bool) → Op
  OpUnlock : (create at length : ℕ) → Op
  OpFlush : (create : ℕ) → Op
  OpStat : (create : ℕ) → Op
  OpList : (create : ℕ) → Op
  OpClose : (create : ℕ) → Op

pub data OpReply : Type 0 where
  IsDone : OpReply
  Action : (action : ℕ) → OpReply
  IsCount : (count : ℕ) → OpReply
  IsContent : (bytes : List ℕ) → OpReply
  Length : (size : ℕ) → OpReply
  Names : (names : List (List ℕ)) → OpReply

-- why a dialog was refused
pub data Refusal : Type 0 where
  BadChoice : (field : ℕ) → Refusal
  BadToken : Refusal
  BadSignature : Refusal
  HadStatus : (status : ℕ) → Refusal
  NoSha512 : Refusal

pub data Why : Type 0 where
  SessionLost : (number : ℕ) → Why
  WithStatus : (status : ℕ) → Why
  NoSession : (refusal : Refusal) → Why
  GaveUp : (tries : ℕ) → Why
  Ended : Why

pub data Outcome : Type 0 where
  Unsettled : Outcome
  WasOk : (reply : OpReply) → Outcome
  WasRefused : (status : ℕ) → Outcome
  NoSlot : (create : ℕ) → Outcome
  NoOpen : (create : ℕ) → Outcome
  Unknown : (why : Why) → Outcome

abbrev pub is_unsettled : Outcome → Bool
is_unsettled Unsettled = true
is_unsettled _ = false

abbrev pub is_ok : Outcome → Bool
is_ok (WasOk reply) = true
is_ok _ = false

-- settled as Ok or Refused
abbrev pub is_firm : Outcome → Bool
is_firm (WasOk reply) = true
is_firm (WasRefused status) = true
is_firm _ = false

-- ---- kinds

abbrev pub is_create : Op → Bool
is_create (OpCreate path access share disposition persist directory) = true
is_create _ = false

abbrev pub is_lock : Op → Bool
is_lock (OpLock create at length exclusive) = true
is_lock (OpUnlock create at length) = true
is_lock _ = false

abbrev pub is_close : Op → Bool
is_close (OpClose create) = true
is_close _ = false

abbrev pub is_write : Op → Bool
is_write (OpWrite create at bytes) = true
is_write _ = false

-- a write or a set-info: end, time, rename, remove
abbrev pub is_change : Op → Bool
is_change (OpWrite create at bytes) = true
is_change (OpEnd create size) = true
is_change (OpTime create time) = true
is_change (OpRename create path) = true
is_change (OpRemove create) = true
is_change _ = false

abbrev pub is_read : Op → Bool
is_read (OpRead create at size) = true
is_read _ = false

-- the create whose open an operation names; a create names itself
abbrev pub create_of : ℕ → Op → ℕ
create_of g (OpCreate path access share disposition persist directory) = g
create_of g (OpWrite create at bytes) = create
create_of g (OpRead create at size) = create
create_of g (OpEnd create size) = create
create_of g (OpTime create time) = create
create_of g (OpRename create path) = create
create_of g (OpRemove create) = create
create_of g (OpLock create at length exclusive) = create
create_of g (OpUnlock create at length) = create
create_of g (OpFlush create) = create
create_of g (OpStat create) = create
create_of g (OpList create) = create
create_of g (OpClose create) = create

abbrev pub persists : Op → Bool
persists (OpCreate path access share disposition persist directory) = persist
persists _ = false

-- the share access of a create
abbrev pub share_of : Op → ℕ
share_of (OpCreate path access share disposition persist directory) = share
share_of _ = 0

-- what can be spelled: numbers of 4 and of 8 bytes, bytes, and texts of at most 1,024 UTF-16 units
abbrev pub fits_32 : ℕ → Bool
fits_32 n = nat_lt n 0x1_0000_0000

abbrev pub fits_64 : ℕ → Bool
fits_64 n = nat_lt n 0x1_0000_0000_0000_0000

unfoldable pub are_below : ℕ → List ℕ → Bool
are_below n [] = true
are_below n (b ∷ bs) = nat_lt b n && are_below n bs

-- UTF-8, of which ASCII is told at a glance
unfoldable pub is_text : List ℕ → Bool
is_text bytes = are_below 128 bytes || is_utf8 bytes

unfoldable pub is_spelled_path : List ℕ → Bool
is_spelled_path path = is_text path && nat_le (utf16_length path) 1024

-- and no more bytes than a script's line gives
abbrev pub keeps_limits : Op → Bool
keeps_limits (OpCreate path access share disposition persist directory) = is_spelled_path path
    && (fits_32 access && (fits_32 share && fits_32 disposition))
keeps_limits (OpWrite create at bytes) = fits_64 at && (are_below 256 bytes && nat_le (length bytes) 1048577)
keeps_limits (OpRead create at size) = fits_64 at && nat_le size 1048577
keeps_limits (OpEnd create size) = fits_64 size
keeps_limits (OpTime create time) = fits_64 time
keeps_limits (OpRename create path) = is_spelled_path path
keeps_limits (OpLock create at length exclusive) = fits_64 at && fits_64 length
keeps_limits (OpUnlock create at length) = fits_64 at && fits_64 length
keeps_limits _ = true

-- ---- what waits for what: whether the second, of a higher number and the same open, waits for the first

abbrev pub lock_waits : ℕ → ℕ → Op → Bool
lock_waits at n (OpLock create q m exclusive) = meets at n q m
lock_waits at n (OpUnlock create q m) = meets at n q m
lock_waits at n (OpClose create) = true
lock_waits at n _ = false

-- a write holds up changes that may overlap it, and what looks at its bytes
abbrev pub write_holds_up : ℕ → List ℕ → Op → Bool
write_holds_up at bytes (OpCreate path access share disposition persist directory) = false
write_holds_up at bytes (OpWrite create q more) = meets at (length bytes) q (length more)
write_holds_up at bytes (OpRead create q size) = meets at (length bytes) q size
write_holds_up at bytes (OpLock create q n exclusive) = false
write_holds_up at bytes (OpUnlock create q n) = false
write_holds_up at bytes (OpFlush create) = not (length bytes == 0)
write_holds_up at bytes (OpStat create) = not (length bytes == 0)
write_holds_up at bytes (OpList create) = false
write_holds_up at bytes _ = true

-- an end holds up all changes and all that look at bytes or length
abbrev pub end_holds_up : Op → Bool
end_holds_up (OpCreate path access share disposition persist directory) = false
end_holds_up (OpLock create q n exclusive) = false
end_holds_up (OpUnlock create q n) = false
end_holds_up (OpList create) = false
end_holds_up _ = true

abbrev pub is_change_or_close : Op → Bool
is_change_or_close op = is_change op || is_close op

abbrev pub holds_up : Op → Op → Bool
holds_up (OpCreate path access share disposition persist directory) b = false
holds_up (OpWrite create at bytes) b = write_holds_up at bytes b
holds_up (OpEnd create size) b = end_holds_up b
holds_up (OpTime create time) b = is_change_or_close b
holds_up (OpRename create path) b = is_change_or_close b
holds_up (OpRemove create) b = is_change_or_close b
holds_up (OpLock create at n exclusive) b = lock_waits at n b
holds_up (OpUnlock create at n) b = lock_waits at n b
holds_up (OpClose create) b = true
holds_up _ b = is_close b

-- ---- what goes out

abbrev pub options_of : Bool → ℕ
options_of directory = if directory then 0x1 else 0x40

abbrev pub create_request : List ℕ → ℕ → ℕ → ℕ → Bool → Option Durable → Option Reconnect → CreateRequest
create_request path access share disposition directory durable reconnect =
    record {
      path = path;
      access = access;
      share = share;
      attributes = 0;
      disposition = disposition;
      options = options_of directory;
      durable = durable;
      reconnect = reconnect;
      maximal = false;
      disk_id = false;
    }

abbrev pub durable_of : ℕ → Bool → Durable
durable_of guid persist = record { timeout = 0; persistent = persist; guid = guid }

-- the written time alone; 0 leaves the others
abbrev pub only_written : ℕ → Basic
only_written time = record { created = 0; accessed = 0; written = time; changed = 0; attributes = 0 }

abbrev pub lock_flags : Bool → ℕ
lock_flags exclusive = if exclusive then 0x12 else 0x11

abbrev pub element : ℕ → ℕ → ℕ → List Element
element at n flags = record { at = at; length = n; flags = flags } ∷ []

-- the request of an operation, by its guid, its open's id, its slot and the slot's number
abbrev pub request_of : Op → ℕ → ℕ → ℕ → ℕ → Command
request_of (OpCreate path access share disposition persist directory) guid file slot number =
    CreateCommand (create_request path access share disposition directory (Some (durable_of guid persist)) None)
request_of (OpWrite create at bytes) guid file slot number = WriteCommand file at bytes 0
request_of (OpRead create at size) guid file slot number = ReadCommand file at size 0 0
request_of (OpEnd create size) guid file slot number = SetInfo file (SetEnd size)
request_of (OpTime create time) guid file slot number = SetInfo file (SetBasic (only_written time))
request_of (OpRename create path) guid file slot number = SetInfo file (Rename false path)
request_of (OpRemove create) guid file slot number = SetInfo file (SetDelete true)
request_of (OpLock create at n exclusive) guid file slot number = Lock file slot number (element at n (lock_flags exclusive))
request_of (OpUnlock create at n) guid file slot number = Lock file slot number (element at n 0x4)
request_of (OpFlush create) guid file slot number = Flush file
request_of (OpStat create) guid file slot number = QueryFile file 5 24
request_of (OpList create) guid file slot number = ListDirectory file 12 true false (42 ∷ []) 1048576
request_of (OpClose create) guid file slot number = Close file false

-- DH2C, in an operation's place: the create's own request, by its open's id and guid
abbrev pub reconnect_of : Op → ℕ → ℕ → Command
reconnect_of (OpCreate path access share disposition persist directory) guid file =
    CreateCommand (create_request path access share disposition directory None (Some (record { file = file; guid = guid })))
reconnect_of _ guid file = Aside success  -- it is asked of creates alone

-- the larger of the bytes that are sent and the bytes that are asked for
abbrev pub weight : Op → ℕ
weight (OpWrite create at bytes) = length bytes
weight (OpRead create at size) = size
weight (OpStat create) = 24
weight (OpList create) = 1048576
weight _ = 0

-- CreditCharge (MS-SMB2 3.1.5.2): one for each 65,536 bytes begun, and one where there are none
abbrev pub charge : ℕ → ℕ
charge n = if n == 0 then 1 else (n - 1) / 65536 + 1

-- ---- what is replied: a success whose body is another one's has no value

unfoldable pub names_in : List Named → List (List ℕ)
names_in [] = []
names_in (n ∷ ns) = if same_bytes n.name (46 ∷ []) || same_bytes n.name (46 ∷ 46 ∷ []) then names_in ns else n.name ∷ names_in ns

abbrev pub action_in : Body → Option OpReply
action_in (Created reply) = Some (Action reply.action)
action_in _ = None

abbrev pub count_in : Body → Option OpReply
count_in (Count count) = Some (IsCount count)
count_in _ = None

abbrev pub content_in : Body → Option OpReply
content_in (Content bytes) = Some (IsContent bytes)
content_in _ = None

abbrev pub length_in : Body → Option OpReply
length_in (FileInfo class path info access options position) = Some (Length info.size)
length_in _ = None

abbrev pub listing_in : Body → Option OpReply
listing_in (Listing class entries) = Some (Names (names_in entries))
listing_in _ = None

abbrev pub nothing_in : Body → Option OpReply
nothing_in Empty = Some IsDone
nothing_in _ = None

abbrev pub value_in : Op → Body → Option OpReply
value_in (OpCreate path access share disposition persist directory) body = action_in body
value_in (OpWrite create at bytes) body = count_in body
value_in (OpRead create at size) body = content_in body
value_in (OpStat create) body = length_in body
value_in (OpList create) body = listing_in body
value_in _ body = nothing_in body

-- the id that a create's success names
abbrev pub id_in : Body → ℕ
id_in (Created reply) = reply.id
id_in _ = 0

-- ---- what an operation asks of its file's bytes

abbrev pub content_op : Op → ContentOp
content_op (OpWrite create at bytes) = Writes at bytes
content_op (OpRead create at size) = Reads at size
content_op (OpEnd create size) = Ends size
content_op _ = Still
