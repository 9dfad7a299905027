-- Requests as values (MS-SMB2 2.2): what a command asks, whoever sent it.
use Rattle.std.specs.Prelude.{ℕ, ◌+◌, ◌/◌, ◌%◌, ◌==◌, nat_lt, nat_le, Bool, true, false, not, ◌&&◌, ◌||◌, if◌then◌else◌, List}
use Rattle.std.specs.Prelude.{[], ◌∷◌, length, Option, Some, None, is_some}
use Rattle.spec_exchange.specs.Status.{invalid_parameter, object_name_invalid}
use Rattle.spec_exchange.specs.declared.values.Basic as basic_value
use Rattle.spec_exchange.specs.declared.values.Element as element_value
use Rattle.spec_exchange.specs.Texts.{is_path, begins_with_backslash, utf16_length}

-- whether the number has this bit, a power of two
unfoldable pub has_bit : ℕ → ℕ → Bool
has_bit n bit = (n / bit) % 2 == 1

-- ---- CREATE (2.2.13)

-- asks for an open that outlives its session where persistent (2.2.13.2.11); timeout in milliseconds
pub record Durable : Type 0 where
  pub timeout : ℕ
  pub persistent : Bool
  pub guid : ℕ

-- asks to attach a standing open (2.2.13.2.12)
pub record Reconnect : Type 0 where
  pub file : ℕ
  pub guid : ℕ

pub record CreateRequest : Type 0 where
  pub path : List ℕ
  pub access : ℕ
  pub share : ℕ
  pub attributes : ℕ
  pub disposition : ℕ
  pub options : ℕ
  pub durable : Option Durable
  pub reconnect : Option Reconnect
  pub maximal : Bool  -- it asks for the maximal access (2.2.13.2.5)
  pub disk_id : Bool  -- it asks for the file's number (2.2.13.2.9)

-- options: a directory, no directory, delete on close
abbrev pub asks_directory : CreateRequest → Bool
asks_directory r = has_bit r.options 0x1

abbrev pub asks_file : CreateRequest → Bool
asks_file r = has_bit r.options 0x40

unfoldable pub deletes_on_close : ℕ → Bool
deletes_on_close options = has_bit options 0x1000

-- ---- SESSION_SETUP (2.2.5): what its token shows, which the level of bytes decides

pub data Shows : Type 0 where
  Begins : Shows  -- a first token that names NTLM
  Bad : Shows  -- a token that doesn't read as the due one
  Refused : Shows  -- a logon that is refused
  Logon : (user : List ℕ) → Shows  -- a logon of this user; its exported key, fresh in each dialog, stays with the level of bytes

pub record SetupRequest : Type 0 where
  pub readable : Bool  -- its body reads
  pub binding : Bool
  pub signed : Bool  -- it carries a signature
  pub verified : Bool  -- it is the session's own
  pub previous : ℕ
  pub cipher : ℕ  -- chosen on its connection; 0 for none
  pub signing : ℕ
  pub shows : Shows

-- ---- LOCK (2.2.26)

-- flags: shared 1, exclusive 2, unlock 4, at once 0x10
abbrev pub Element : Type 0
Element = element_value.Element

abbrev pub locks : ℕ → Bool
locks flags = (flags == 0x1) || ((flags == 0x2) || ((flags == 0x11) || (flags == 0x12)))

abbrev pub is_exclusive : ℕ → Bool
is_exclusive flags = (flags == 0x2) || (flags == 0x12)

abbrev pub all_lock : List Element → Bool
all_lock [] = true
all_lock (e ∷ es) = locks e.flags && all_lock es

abbrev pub all_unlock : List Element → Bool
all_unlock [] = true
all_unlock (e ∷ es) = (e.flags == 0x4) && all_unlock es

-- ---- SET_INFO (2.2.39) of the file classes 4, 10, 13, 14, 16, 19 and 20

-- times in 100 nanoseconds since 1601 (MS-FSCC 2.4.7)
abbrev pub Basic : Type 0
Basic = basic_value.Basic

pub data Setting : Type 0 where
  SetBasic : (basic : Basic) → Setting
  Rename : (replace : Bool) (path : List ℕ) → Setting
  SetDelete : (delete_pending : Bool) → Setting
  SetAllocation : (size : ℕ) → Setting
  SetEnd : (size : ℕ) → Setting
  SetPosition : (position : ℕ) → Setting
  SetMode : Setting  -- whichever bits it names

-- ---- one request

-- A file is named by its open's id: a FileId is that id twice. One of two different halves is 0, which no open has.
pub data Command : Type 0 where
  Unreadable : (status : ℕ) → Command  -- the body doesn't read, is of no known class or asks for what isn't supported
  -- NEGOTIATE and ECHO, read or not: no event, answered by the connection alone with this status, which counts the fault of
  -- its message and its form too, since nothing else looks at them
  Aside : (status : ℕ) → Command
  Setup : (request : SetupRequest) → Command
  Logoff : Command
  TreeConnect : (share : List ℕ) → Command
  TreeDisconnect : Command
  Create : (request : CreateRequest) → Command
  Close : (file : ℕ) (query : Bool) → Command  -- whether it asks for the file's times and lengths
  Flush : (file : ℕ) → Command
  Read : (file at size minimum channel : ℕ) → Command
  Write : (file at : ℕ) (bytes : List ℕ) (channel : ℕ) → Command
  Lock : (file index number : ℕ) (elements : List Element) → Command
  Ioctl : (file code room : ℕ) → Command
  ListDirectory : (file class : ℕ) (restart single : Bool) (pattern : List ℕ) (room : ℕ) → Command
  QueryFile : (file class room : ℕ) → Command
  QueryVolume : (file class room : ℕ) → Command
  SetInfo : (file : ℕ) (setting : Setting) → Command

-- the FileId of 16 bytes FF, by which an IOCTL names no open
abbrev pub no_file : ℕ
no_file = 0xffff_ffff_ffff_ffff

-- ---- form rules: the status of the first that the command breaks

unfoldable pub path_form : List ℕ → Option ℕ
path_form path = if begins_with_backslash path then Some invalid_parameter else if is_path path then None else Some object_name_invalid

-- no directory is TEMPORARY (MS-FSA 2.1.5.1.1)
abbrev pub made_form : CreateRequest → Option ℕ
made_form r =
    if nat_lt 5 r.disposition then Some invalid_parameter
    else if asks_directory r && asks_file r then Some invalid_parameter
    else if asks_directory r && has_bit r.attributes 0x100 then Some invalid_parameter
    else path_form r.path

-- What asks to attach asks for nothing else, and no more of it is looked at (3.3.5.9.12).
abbrev pub create_form : CreateRequest → Option ℕ
create_form r =
    if is_some r.reconnect then (if is_some r.durable then Some invalid_parameter else None)
    else made_form r

-- at most 1,048,576 bytes, no RDMA channel, an end below 2 ^ 63 (3.3.5.12, 3.3.5.13)
abbrev pub transfer_form : ℕ → ℕ → ℕ → Option ℕ
transfer_form at size channel = if nat_lt 1048576 size then Some invalid_parameter else if not (channel == 0) then Some
    invalid_parameter else if nat_lt (at + size) 0x8000_0000_0000_0000 then None else Some invalid_parameter

abbrev pub lock_form : List Element → Option ℕ
lock_form [] = Some invalid_parameter
lock_form (e ∷ es) = if all_lock (e ∷ es) || all_unlock (e ∷ es) then None else Some invalid_parameter

abbrev pub room_form : ℕ → Option ℕ
room_form room = if nat_lt 1048576 room then Some invalid_parameter else None

-- a pattern has at most 1,024 units, as a path does (this project's); no text has more units than bytes
abbrev pub is_short_pattern : List ℕ → Bool
is_short_pattern pattern = nat_le (length pattern) 1024 || nat_le (utf16_length pattern) 1024

abbrev pub list_form : List ℕ → ℕ → Option ℕ
list_form pattern room = if nat_lt 1048576 room then Some invalid_parameter
    else if is_short_pattern pattern then None else Some object_name_invalid

-- a position is a number of 64 bits with a sign, and none is below 0 (MS-FSA 2.1.5.15.9)
abbrev pub setting_form : Setting → Option ℕ
setting_form (Rename replace path) = path_form path
setting_form (SetPosition position) = if nat_lt position 0x8000_0000_0000_0000 then None else Some invalid_parameter
setting_form _ = None

abbrev pub form : Command → Option ℕ
form (Unreadable status) = Some status
form (Setup request) = if request.readable then None else Some invalid_parameter
form (Create request) = create_form request
form (Read file at size minimum channel) = transfer_form at size channel
form (Write file at bytes channel) = transfer_form at (length bytes) channel
form (Lock file index number elements) = lock_form elements
form (Ioctl file code room) = room_form room
form (ListDirectory file class restart single pattern room) = list_form pattern room
form (QueryFile file class room) = room_form room
form (QueryVolume file class room) = room_form room
form (SetInfo file setting) = setting_form setting
form _ = None

-- SESSION_SETUP alone comes before a session is there
abbrev pub is_setup : Command → Bool
is_setup (Setup request) = true
is_setup _ = false
