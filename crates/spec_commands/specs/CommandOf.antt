-- The command of a request by its bytes, and the message that the server hears (MS-SMB2 2.2.1, 3.3.5.2).
use Rattle.std.specs.Prelude.{ℕ, zero, suc, ◌/◌, ◌%◌, ◌==◌, Bool, true, false, not, ◌||◌, if◌then◌else◌, List, [], ◌∷◌, length, drop}
use Rattle.std.specs.Prelude.{Option, Some, None, is_some, option_map}
use Rattle.spec_wire.specs.messages.Places.{number}
use Rattle.spec_wire.specs.declared.messages.header.Header.{Header}
use Rattle.spec_wire.specs.declared.messages.error.MessageError.{MessageError}
use Rattle.spec_wire.specs.declared.messages.error.MessageError.TheVariants.{BadClass}
use Rattle.spec_wire.specs.declared.messages.context.CreateContexts.{CreateContexts}
use Rattle.spec_wire.specs.declared.messages.context.Dh2q.{Dh2q}
use Rattle.spec_wire.specs.declared.messages.context.Dh2c.{Dh2c}
use Rattle.spec_wire.specs.messages.SessionSetup.{SessionSetupRequestValue, session_setup_request_in, session_setup_request_fault}
use Rattle.spec_wire.specs.messages.TreeConnect.{tree_connect_request_in, tree_connect_request_fault}
use Rattle.spec_wire.specs.messages.Bare.{bare_fault}
use Rattle.spec_wire.specs.messages.Create.{CreateRequestValue, create_request_in, create_request_fault}
use Rattle.spec_wire.specs.messages.CreateContexts.{context_in, first_fault, request_due, request_contexts}
use Rattle.spec_wire.specs.messages.Close.{close_request_in, close_request_fault}
use Rattle.spec_wire.specs.messages.Flush.{flush_request_in, flush_request_fault}
use Rattle.spec_wire.specs.messages.Read.{read_request_in, read_request_fault}
use Rattle.spec_wire.specs.messages.Write.{write_request_in, write_request_fault}
use Rattle.spec_wire.specs.messages.Lock.{LockRequestValue, lock_request_in, lock_request_fault}
use Rattle.spec_wire.specs.messages.Ioctl.{ioctl_request_in, ioctl_request_fault}
use Rattle.spec_wire.specs.messages.QueryDirectory.{QueryDirectoryRequestValue, query_directory_request_in, query_directory_request_fault}
use Rattle.spec_wire.specs.messages.QueryInfo.{QueryInfoRequestValue, query_info_request_in, query_info_request_fault}
use Rattle.spec_wire.specs.messages.SetInfo.{SetInfoRequestValue, set_info_request_in, set_info_request_fault}
use Rattle.spec_wire.specs.messages.FileClasses.{file_basic_information_in, file_basic_information_fault}
use Rattle.spec_wire.specs.messages.FileClasses.{FileRenameInformationValue, file_rename_information_in}
use Rattle.spec_wire.specs.messages.FileClasses.{file_rename_information_fault, file_disposition_information_in}
use Rattle.spec_wire.specs.messages.FileClasses.{file_disposition_information_fault, file_allocation_information_in}
use Rattle.spec_wire.specs.messages.FileClasses.{file_allocation_information_fault, file_end_of_file_information_in}
use Rattle.spec_wire.specs.messages.FileClasses.{file_end_of_file_information_fault, file_position_information_in}
use Rattle.spec_wire.specs.messages.FileClasses.{file_position_information_fault, file_mode_information_fault}
use Rattle.spec_wire.specs.declared.messages.class.FileBasicInformation.{FileBasicInformation}
use Rattle.spec_exchange.specs.Status.{success, invalid_parameter, invalid_info_class, object_name_invalid, not_supported}
use Rattle.spec_exchange.specs.Texts.{leaf_of}
use Rattle.spec_exchange.specs.Commands.{Command, Unreadable, Aside, Setup, Logoff, TreeConnect, TreeDisconnect, Create}
use Rattle.spec_exchange.specs.Commands.{Close, Flush, Read, Write, Lock, Ioctl, ListDirectory, QueryFile, QueryVolume}
use Rattle.spec_exchange.specs.Commands.{SetInfo, SetBasic, Rename, SetDelete, SetAllocation, SetEnd, SetPosition, SetMode, Shows}
use Rattle.spec_exchange.specs.Commands.{Element, Basic, Durable, Reconnect, has_bit}
use Rattle.spec_exchange.specs.State.{Message}
use Rattle.spec_commands.specs.Ids.{file_of, guid_of}
use Rattle.spec_commands.specs.Text.{text_in}
use Rattle.spec_commands.specs.Items.{items_in}
use Rattle.spec_commands.specs.Charges.{paid_for}
use Rattle.spec_commands.specs.Clashes.{clash_in}

-- what the connection alone tells of a message: its keys, its choices and its acceptor
pub record Told : Type 0 where
  pub connection : ℕ
  pub client : ℕ  -- the ClientGuid
  pub fault : Option ℕ  -- ACCESS_DENIED, where it isn't signed or sealed as owed
  pub verified : Bool  -- the signature of a SESSION_SETUP is the session's own
  pub cipher : ℕ  -- chosen here, 0 for none
  pub signing : ℕ
  pub shows : List ℕ → Shows  -- what a token shows
  pub negotiated : ℕ  -- the status of a NEGOTIATE

-- ---- a body that doesn't read

-- the status of a break: an unknown class INVALID_INFO_CLASS, any other INVALID_PARAMETER
abbrev pub status_of : MessageError → ℕ
status_of (BadClass class) = invalid_info_class
status_of _ = invalid_parameter

-- the command, where nothing breaks
abbrev pub unless : Option MessageError → Command → Command
unless (Some e) c = Unreadable (status_of e)
unless None c = c

-- ---- SESSION_SETUP (2.2.5): Flags binding 1; the header's signed 8

abbrev pub setup_of : Told → Header → Bool → SessionSetupRequestValue → Command
setup_of t h readable v =
    Setup (record {
      readable = readable;
      binding = has_bit v.flags 1;
      signed = has_bit h.flags 8;
      verified = t.verified;
      previous = v.previous_session_id;
      cipher = t.cipher;
      signing = t.signing;
      shows = t.shows v.security;
    })

-- of a body that doesn't read nothing is told
abbrev pub no_setup : SessionSetupRequestValue
no_setup = record { flags = 0; security_mode = 0; capabilities = 0; channel = 0; previous_session_id = 0; security = [] }

abbrev pub setup_if : Told → Header → Option MessageError → SessionSetupRequestValue → Command
setup_if t h (Some e) v = setup_of t h false no_setup
setup_if t h None v = setup_of t h true v

-- ---- TREE_CONNECT (2.2.9): the share's name stands behind the last `\` of the path

abbrev pub tree_connect_of : Option (List ℕ) → Command
tree_connect_of None = Unreadable invalid_parameter
tree_connect_of (Some path) = TreeConnect (leaf_of path)

-- ---- CREATE (2.2.13, 2.2.13.2): a name that is no text breaks a name's form, and is told before contexts that break

abbrev pub durable_of : Dh2q → Durable
durable_of q = record { timeout = q.timeout; persistent = q.persistent; guid = guid_of q.guid }

abbrev pub reconnect_of : Dh2c → Reconnect
reconnect_of q = record { file = file_of q.file; guid = guid_of q.guid }

-- what the contexts of a request say, where none breaks
unfoldable pub contexts_in : List ℕ → Option CreateContexts
contexts_in bytes = option_map request_contexts (items_in context_in (λ m. is_some (first_fault request_due m)) bytes)

abbrev pub created_of : CreateRequestValue → List ℕ → CreateContexts → Command
created_of v path c =
    Create (record {
      path = path;
      access = v.desired_access;
      share = v.share_access;
      attributes = v.file_attributes;
      disposition = v.create_disposition;
      options = v.create_options;
      durable = option_map durable_of c.dh2q;
      reconnect = option_map reconnect_of c.dh2c;
      maximal = c.mxac;
      disk_id = c.qfid;
    })

-- what clashes is told behind a break
abbrev pub unclashed : Bool → Command → Command
unclashed clashes c = if clashes then Unreadable invalid_parameter else c

-- of what asks to attach no name is judged (3.3.5.9.12)
abbrev pub create_of : CreateRequestValue → Option (List ℕ) → Option CreateContexts → Bool → Command
create_of v None None clashes = Unreadable object_name_invalid
create_of v None (Some c) clashes =
    if is_some c.dh2c then unclashed clashes (created_of v [] c) else Unreadable object_name_invalid
create_of v (Some path) None clashes = Unreadable invalid_parameter
create_of v (Some path) (Some c) clashes = unclashed clashes (created_of v path c)

-- ---- LOCK (2.2.26): LockSequence is the number in its low 4 bits, and the slot's index; 24 bytes an element

unfoldable pub elements_in : ℕ → List ℕ → List Element
elements_in zero bytes = []
elements_in (suc n) bytes = record { at = number 8 bytes 0; length = number 8 bytes 8; flags = number 4 bytes 16 } ∷
    elements_in n (drop 24 bytes)

abbrev pub lock_of : LockRequestValue → Command
lock_of v = Lock (file_of v.file_id) (v.lock_sequence / 16) (v.lock_sequence % 16) (elements_in (length v.locks / 24) v.locks)

-- ---- QUERY_DIRECTORY (2.2.33): Flags restart 1, single 2, reopen 0x10

abbrev pub list_of : QueryDirectoryRequestValue → Option (List ℕ) → Command
list_of v None = Unreadable object_name_invalid
list_of v (Some pattern) = ListDirectory (file_of v.file_id) v.file_information_class (has_bit v.flags 0x1 || has_bit
    v.flags 0x10) (has_bit v.flags 0x2) pattern v.output_buffer_length

-- ---- QUERY_INFO (2.2.37): type 1 a file, of which extended attributes (15) are left out, 2 a volume; security (3) and quotas
-- (4) are left out

abbrev pub query_of : QueryInfoRequestValue → Command
query_of v =
    if v.info_type == 1 then (if v.file_info_class == 15 then Unreadable not_supported
    else QueryFile (file_of v.file_id) v.file_info_class v.output_buffer_length)
    else if v.info_type == 2 then QueryVolume (file_of v.file_id) v.file_info_class v.output_buffer_length
    else if (v.info_type == 3) || (v.info_type == 4) then Unreadable not_supported
    else Unreadable invalid_parameter

-- ---- SET_INFO (2.2.39) with the classes of MS-FSCC 2.4; types and extended attributes as above

abbrev pub basic_of : FileBasicInformation → Basic
basic_of v = record {
  created = v.creation_time;
  accessed = v.last_access_time;
  written = v.last_write_time;
  changed =
      v.change_time;
  attributes = v.file_attributes;
}

-- RootDirectory names no directory
abbrev pub rename_of : ℕ → FileRenameInformationValue → Option (List ℕ) → Command
rename_of file v None = Unreadable object_name_invalid
rename_of file v (Some path) = if v.root_directory == 0 then SetInfo file (Rename (not (v.replace_if_exists == 0)) path)
    else Unreadable invalid_parameter

abbrev pub setting_of : ℕ → ℕ → List ℕ → Command
setting_of file class bytes =
    if class == 4 then unless (file_basic_information_fault bytes) (SetInfo file (SetBasic (basic_of (file_basic_information_in bytes))))
    else if class == 10 then unless (file_rename_information_fault bytes) (let v = file_rename_information_in bytes in
    rename_of file v (text_in v.name))
    else if class == 13 then unless (file_disposition_information_fault bytes) (SetInfo file (SetDelete (not
    ((file_disposition_information_in bytes).delete_pending == 0))))
    else if class == 19 then unless (file_allocation_information_fault bytes) (SetInfo file (SetAllocation
    (file_allocation_information_in bytes).allocation_size))
    else if class == 20 then unless (file_end_of_file_information_fault bytes) (SetInfo file (SetEnd
    (file_end_of_file_information_in bytes).end_of_file))
    else if class == 14 then unless (file_position_information_fault bytes) (SetInfo file (SetPosition
    (file_position_information_in bytes).current_byte_offset))
    else if class == 16 then unless (file_mode_information_fault bytes) (SetInfo file SetMode)
    else Unreadable not_supported

abbrev pub set_of : SetInfoRequestValue → Command
set_of v =
    if v.info_type == 1 then setting_of (file_of v.file_id) v.file_info_class v.payload
    else if (v.info_type == 3) || (v.info_type == 4) then Unreadable not_supported
    else Unreadable invalid_parameter

-- ---- ECHO (2.2.28) is answered by what the connection finds and by its form alone

abbrev pub echo_status : Option ℕ → Option MessageError → ℕ
echo_status (Some status) e = status
echo_status None (Some e) = status_of e
echo_status None None = success

-- ---- each command, in the order of their numbers; m is the message from its header on

unfoldable pub setup_in : Told → Header → List ℕ → Command
setup_in t h m = setup_if t h (session_setup_request_fault m) (session_setup_request_in m)

unfoldable pub logoff_in : List ℕ → Command
logoff_in m = unless (bare_fault m) Logoff

unfoldable pub tree_connect_in : List ℕ → Command
tree_connect_in m = unless (tree_connect_request_fault m) (tree_connect_of (text_in (tree_connect_request_in m).path))

unfoldable pub tree_disconnect_in : List ℕ → Command
tree_disconnect_in m = unless (bare_fault m) TreeDisconnect

unfoldable pub create_in : List ℕ → Command
create_in m = unless (create_request_fault m) (let v = create_request_in m in create_of v (text_in v.name) (contexts_in v.contexts)
    (clash_in v.contexts))

-- Flags: it asks for times and lengths 1
unfoldable pub close_in : List ℕ → Command
close_in m = unless (close_request_fault m) (let v = close_request_in m in Close (file_of v.file_id) (has_bit v.flags 1))

unfoldable pub flush_in : List ℕ → Command
flush_in m = unless (flush_request_fault m) (Flush (file_of (flush_request_in m).file_id))

unfoldable pub read_in : List ℕ → Command
read_in m = unless (read_request_fault m) (let v = read_request_in m in Read (file_of v.file_id) v.offset v.length
    v.minimum_count v.channel)

unfoldable pub write_in : List ℕ → Command
write_in m = unless (write_request_fault m) (let v = write_request_in m in Write (file_of v.file_id) v.offset v.payload v.channel)

unfoldable pub lock_in : List ℕ → Command
lock_in m = unless (lock_request_fault m) (lock_of (lock_request_in m))

unfoldable pub ioctl_in : List ℕ → Command
ioctl_in m = unless (ioctl_request_fault m) (let v = ioctl_request_in m in Ioctl (file_of v.file_id) v.ctl_code v.max_output_response)

unfoldable pub list_in : List ℕ → Command
list_in m = unless (query_directory_request_fault m) (let v = query_directory_request_in m in list_of v (text_in v.name))

unfoldable pub query_in : List ℕ → Command
query_in m = unless (query_info_request_fault m) (query_of (query_info_request_in m))

unfoldable pub set_in : List ℕ → Command
set_in m = unless (set_info_request_fault m) (set_of (set_info_request_in m))

-- CHANGE_NOTIFY (15) and OPLOCK_BREAK (18) are left out. A number that no command has is no body's.
abbrev pub other_of : ℕ → Command
other_of n = if (n == 15) || (n == 18) then Unreadable not_supported else Unreadable invalid_parameter

-- every command but CANCEL; what is underpaid is refused before its body is looked at (3.3.5.2.5)
abbrev pub named_command : ℕ → Told → Header → List ℕ → Command
named_command n t h m =
    if n == 0 then Aside t.negotiated
    else if n == 1 then setup_in t h m
    else if n == 2 then logoff_in m
    else if n == 3 then tree_connect_in m
    else if n == 4 then tree_disconnect_in m
    else if n == 5 then create_in m
    else if n == 6 then close_in m
    else if n == 7 then flush_in m
    else if n == 8 then paid_for 8 h.charge m (read_in m)
    else if n == 9 then paid_for 9 h.charge m (write_in m)
    else if n == 10 then lock_in m
    else if n == 11 then paid_for 11 h.charge m (ioctl_in m)
    else if n == 13 then Aside (echo_status t.fault (bare_fault m))
    else if n == 14 then paid_for 14 h.charge m (list_in m)
    else if n == 16 then paid_for 16 h.charge m (query_in m)
    else if n == 17 then paid_for 17 h.charge m (set_in m)
    else other_of n

-- the command of the message m of this header; CANCEL (12) has none
unfoldable pub command_of : Told → Header → List ℕ → Option Command
command_of t h m = if h.command == 12 then None else Some (named_command h.command t h m)

-- The message that the server hears. The sequence of its channel is the low half of the header's Status (2.2.1.2); replay is
-- 0x20000000. The ids of a related request are those of its header and body behind what it takes from the one before.
abbrev pub heard_as : Told → Header → Command → Message
heard_as t h c = record {
  connection = t.connection;
  client_guid = t.client;
  session_id = h.session;
  tree_id = h.tree;
  message_id =
      h.message;
  channel_sequence = h.status % 65536;
  replay = has_bit h.flags 0x2000_0000;
  fault = t.fault;
  command = c;
}

unfoldable pub message_of : Told → Header → List ℕ → Option Message
message_of t h m = option_map (heard_as t h) (command_of t h m)
