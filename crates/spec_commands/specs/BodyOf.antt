-- What the client writes behind a header for its commands (MS-SMB2 3.2.4). The tokens of a dialog are written by it alone.
use Rattle.std.specs.Prelude.{ℕ, ◌+◌, ◌*◌, Bool, true, List, [], ◌∷◌, ◌++◌, option_map, flat_map}
use Rattle.spec_wire.specs.declared.messages.context.CreateContexts.{CreateContexts}
use Rattle.spec_wire.specs.declared.messages.context.Dh2q.{Dh2q}
use Rattle.spec_wire.specs.declared.messages.context.Dh2c.{Dh2c}
use Rattle.spec_wire.specs.declared.messages.message.LockElement.{LockElement}
use Rattle.spec_wire.specs.declared.messages.message.ReadRequest.{ReadRequest}
use Rattle.spec_wire.specs.declared.messages.file_message.CloseRequest.{CloseRequest}
use Rattle.spec_wire.specs.declared.messages.file_message.FlushRequest.{FlushRequest}
use Rattle.spec_wire.specs.declared.messages.class.FileBasicInformation.{FileBasicInformation}
use Rattle.spec_wire.specs.messages.Utf16.{utf16}
use Rattle.spec_wire.specs.messages.TreeConnect.{TreeConnectRequestValue, tree_connect_request_spelling}
use Rattle.spec_wire.specs.messages.Create.{CreateRequestValue, create_request_spelling}
use Rattle.spec_wire.specs.messages.CreateContexts.{create_contexts_spelling}
use Rattle.spec_wire.specs.messages.Close.{close_request_spelling}
use Rattle.spec_wire.specs.messages.Flush.{flush_request_spelling}
use Rattle.spec_wire.specs.messages.Read.{read_request_spelling}
use Rattle.spec_wire.specs.messages.Write.{WriteRequestValue, write_request_spelling}
use Rattle.spec_wire.specs.messages.Lock.{LockRequestValue, lock_request_spelling, lock_element_spelling}
use Rattle.spec_wire.specs.messages.QueryDirectory.{QueryDirectoryRequestValue, query_directory_request_spelling}
use Rattle.spec_wire.specs.messages.QueryInfo.{QueryInfoRequestValue, query_info_request_spelling}
use Rattle.spec_wire.specs.messages.SetInfo.{SetInfoRequestValue, set_info_request_spelling}
use Rattle.spec_wire.specs.messages.FileClasses.{file_basic_information_spelling, file_rename_information_spelling}
use Rattle.spec_wire.specs.messages.FileClasses.{file_disposition_information_spelling, file_allocation_information_spelling}
use Rattle.spec_wire.specs.messages.FileClasses.{file_end_of_file_information_spelling, file_position_information_spelling}
use Rattle.spec_wire.specs.messages.FileClasses.{file_mode_information_spelling}
use Rattle.spec_exchange.specs.Commands.{Command, TreeConnect, Create, Close, Flush, Read, Write, Lock, ListDirectory}
use Rattle.spec_exchange.specs.Commands.{QueryFile, SetInfo, Setting, SetBasic, Rename, SetDelete, SetAllocation}
use Rattle.spec_exchange.specs.Commands.{SetEnd, SetPosition, SetMode, CreateRequest, Durable, Reconnect, Element, Basic}
use Rattle.spec_commands.specs.Ids.{file_id, guid_id}
use Rattle.spec_commands.specs.Tables.{bit_if}

-- ---- TREE_CONNECT (2.2.9): `\\smb311\` and the share's name

abbrev pub host : List ℕ
host = 92 ∷ 92 ∷ 115 ∷ 109 ∷ 98 ∷ 51 ∷ 49 ∷ 49 ∷ 92 ∷ []

abbrev pub tree_connect_value : List ℕ → TreeConnectRequestValue
tree_connect_value share = record { flags = 0; path = utf16 (host ++ share) }

-- ---- CREATE (2.2.13): no oplock is asked, ImpersonationLevel is 2

abbrev pub dh2q_of : Durable → Dh2q
dh2q_of d = record { timeout = d.timeout; persistent = d.persistent; guid = guid_id d.guid }

-- only a persistent open is attached again
abbrev pub dh2c_of : Reconnect → Dh2c
dh2c_of c = record { file = file_id c.file; guid = guid_id c.guid; persistent = true }

abbrev pub contexts_of : CreateRequest → CreateContexts
contexts_of r = record { dh2q = option_map dh2q_of r.durable; dh2c = option_map dh2c_of r.reconnect; mxac = r.maximal; qfid = r.disk_id }

abbrev pub create_value : CreateRequest → CreateRequestValue
create_value r =
    record {
      requested_oplock_level = 0;
      impersonation_level = 2;
      desired_access = r.access;
      file_attributes =
          r.attributes;
      share_access = r.share;
      create_disposition = r.disposition;
      create_options = r.options;
      name =
          utf16 r.path;
      contexts = create_contexts_spelling (contexts_of r);
    }

-- ---- LOCK (2.2.26)

abbrev pub element_of : Element → LockElement
element_of e = record { offset = e.at; length = e.length; flags = e.flags }

abbrev pub lock_value : ℕ → ℕ → ℕ → List Element → LockRequestValue
lock_value file index number elements = record {
  lock_sequence = 16 * index + number;
  file_id = file_id file;
  locks =
      flat_map (λ e. lock_element_spelling (element_of e)) elements;
}

-- ---- SET_INFO (2.2.39): the class of a setting, and its bytes (MS-FSCC 2.4)

abbrev pub class_of : Setting → ℕ
class_of (SetBasic basic) = 4
class_of (Rename replace path) = 10
class_of (SetDelete delete_pending) = 13
class_of (SetAllocation size) = 19
class_of (SetEnd size) = 20
class_of (SetPosition position) = 14
class_of SetMode = 16

abbrev pub basic_value : Basic → FileBasicInformation
basic_value b = record {
  creation_time = b.created;
  last_access_time = b.accessed;
  last_write_time = b.written;
  change_time = b.changed;
  file_attributes = b.attributes;
}

abbrev pub setting_bytes : Setting → List ℕ
setting_bytes (SetBasic basic) = file_basic_information_spelling (basic_value basic)
setting_bytes (Rename replace path) = file_rename_information_spelling (record {
  replace_if_exists = bit_if replace 1;
  root_directory = 0;
  name = utf16 path;
})
setting_bytes (SetDelete delete_pending) = file_disposition_information_spelling (record { delete_pending = bit_if delete_pending 1 })
setting_bytes (SetAllocation size) = file_allocation_information_spelling (record { allocation_size = size })
setting_bytes (SetEnd size) = file_end_of_file_information_spelling (record { end_of_file = size })
setting_bytes (SetPosition position) = file_position_information_spelling (record { current_byte_offset = position })
setting_bytes SetMode = file_mode_information_spelling (record { mode = 0 })

abbrev pub set_value : ℕ → Setting → SetInfoRequestValue
set_value file setting = record {
  info_type = 1;
  file_info_class = class_of setting;
  additional_information = 0;
  file_id
      = file_id file;
  payload = setting_bytes setting;
}

-- ---- the others (2.2.15, 2.2.17, 2.2.19, 2.2.21, 2.2.33, 2.2.37)

abbrev pub close_value : ℕ → Bool → CloseRequest
close_value file query = record { flags = bit_if query 1; file_id = file_id file }

abbrev pub flush_value : ℕ → FlushRequest
flush_value file = record { file_id = file_id file }

abbrev pub read_value : ℕ → ℕ → ℕ → ℕ → ℕ → ReadRequest
read_value file at size minimum channel = record {
  flags = 0;
  length = size;
  offset = at;
  file_id = file_id file;
  minimum_count = minimum;
  channel = channel;
  remaining_bytes = 0;
}

abbrev pub write_value : ℕ → ℕ → List ℕ → ℕ → WriteRequestValue
write_value file at bytes channel = record {
  offset = at;
  file_id = file_id file;
  channel = channel;
  remaining_bytes =
      0;
  flags = 0;
  payload = bytes;
}

abbrev pub list_value : ℕ → ℕ → Bool → Bool → List ℕ → ℕ → QueryDirectoryRequestValue
list_value file class restart single pattern room =
    record {
      file_information_class = class;
      flags = bit_if restart 1 + bit_if single 2;
      file_index = 0;
      file_id =
          file_id file;
      output_buffer_length = room;
      name = utf16 pattern;
    }

abbrev pub query_value : ℕ → ℕ → ℕ → QueryInfoRequestValue
query_value file class room = record {
  info_type = 1;
  file_info_class = class;
  output_buffer_length = room;
  additional_information = 0;
  flags = 0;
  file_id = file_id file;
  input = [];
}

-- ---- the body of a command; the client sends no others, but those of a dialog that carry a token

unfoldable pub body_of : Command → List ℕ
body_of (TreeConnect share) = tree_connect_request_spelling (tree_connect_value share)
body_of (Create request) = create_request_spelling (create_value request)
body_of (Close file query) = close_request_spelling (close_value file query)
body_of (Flush file) = flush_request_spelling (flush_value file)
body_of (Read file at size minimum channel) = read_request_spelling (read_value file at size minimum channel)
body_of (Write file at bytes channel) = write_request_spelling (write_value file at bytes channel)
body_of (Lock file index number elements) = lock_request_spelling (lock_value file index number elements)
body_of (ListDirectory file class restart single pattern room) = query_directory_request_spelling (list_value file class
    restart single pattern room)
body_of (QueryFile file class room) = query_info_request_spelling (query_value file class room)
body_of (SetInfo file setting) = set_info_request_spelling (set_value file setting)
body_of _ = []

-- the number that the header tells (2.2.1.2)
abbrev pub number_of_command : Command → ℕ
number_of_command (TreeConnect share) = 3
number_of_command (Create request) = 5
number_of_command (Close file query) = 6
number_of_command (Flush file) = 7
number_of_command (Read file at size minimum channel) = 8
number_of_command (Write file at bytes channel) = 9
number_of_command (Lock file index number elements) = 10
number_of_command (ListDirectory file class restart single pattern room) = 14
number_of_command (QueryFile file class room) = 16
number_of_command (SetInfo file setting) = 17
number_of_command _ = 0
