-- What the server writes behind a header for a reply to a command (MS-SMB2 3.3.5). NEGOTIATE's response is its dialog's.
use Rattle.std.specs.Prelude.{ℕ, ◌==◌, Bool, true, false, ◌&&◌, ◌||◌, if◌then◌else◌, List, [], Option, Some, None, option_map}
use Rattle.spec_wire.specs.declared.messages.context.ReplyContexts.{ReplyContexts}
use Rattle.spec_wire.specs.declared.messages.context.Dh2qReply.{Dh2qReply}
use Rattle.spec_wire.specs.declared.messages.context.MaximalAccess.{MaximalAccess}
use Rattle.spec_wire.specs.declared.messages.context.DiskId.{DiskId}
use Rattle.spec_wire.specs.declared.messages.file_message.CloseResponse.{CloseResponse}
use Rattle.spec_wire.specs.declared.messages.message.WriteResponse.{WriteResponse}
use Rattle.spec_wire.specs.declared.messages.session_message.TreeConnectResponse.{TreeConnectResponse}
use Rattle.spec_wire.specs.messages.Error.{error_response_spelling}
use Rattle.spec_wire.specs.messages.Bare.{bare_spelling}
use Rattle.spec_wire.specs.messages.SessionSetup.{session_setup_response_spelling}
use Rattle.spec_wire.specs.messages.TreeConnect.{tree_connect_response_spelling}
use Rattle.spec_wire.specs.messages.CreateContexts.{reply_contexts_spelling}
use Rattle.spec_wire.specs.messages.CreateResponse.{CreateResponseValue, create_response_spelling}
use Rattle.spec_wire.specs.messages.Close.{close_response_spelling}
use Rattle.spec_wire.specs.messages.Flush.{flush_response_spelling}
use Rattle.spec_wire.specs.messages.Read.{ReadResponseValue, read_response_spelling}
use Rattle.spec_wire.specs.messages.Write.{write_response_spelling}
use Rattle.spec_wire.specs.messages.LockResponse.{lock_response_spelling}
use Rattle.spec_wire.specs.messages.Ioctl.{IoctlResponseValue, ioctl_response_spelling}
use Rattle.spec_wire.specs.messages.QueryDirectory.{query_directory_response_spelling}
use Rattle.spec_wire.specs.messages.QueryInfo.{query_info_response_spelling}
use Rattle.spec_wire.specs.messages.SetInfo.{set_info_response_spelling}
use Rattle.spec_exchange.specs.Status.{success, more_processing_required}
use Rattle.spec_exchange.specs.Commands.{Command, Aside, Setup, Logoff, TreeConnect, TreeDisconnect, Create, Close}
use Rattle.spec_exchange.specs.Commands.{Flush, Read, Write, Lock, Ioctl, ListDirectory, QueryFile, QueryVolume}
use Rattle.spec_exchange.specs.Commands.{SetInfo, is_setup}
use Rattle.spec_exchange.specs.State.{Info, CreateReply, Address, Body, Empty, Created, Closed, Content, Count}
use Rattle.spec_exchange.specs.State.{Interfaces, ObjectId, Listing, FileInfo, VolumeInfo, SetUp, Connected, Reply}
use Rattle.spec_commands.specs.Ids.{file_id}
use Rattle.spec_commands.specs.Tables.{bit_if}
use Rattle.spec_commands.specs.Infos.{allocation, attributes_of, file_bytes, volume_bytes, listing_bytes, interface_bytes, object_id_bytes}

-- ---- SESSION_SETUP (2.2.6): SessionFlags ENCRYPT_DATA 4, which a success alone tells

abbrev pub seals_in : Body → Bool
seals_in (SetUp sealed channel) = sealed
seals_in _ = false

-- ---- CREATE (2.2.14, 2.2.14.2): DH2Q where a timeout is told, of persistent opens alone; MxAc and QFid where they are asked,
-- with the access that everyone has, and 1 for the volume

abbrev pub timeout_told : ℕ → Dh2qReply
timeout_told timeout = record { timeout = timeout; persistent = true }

abbrev pub access_told : Bool → Option MaximalAccess
access_told asked = if asked then Some (record { query_status = 0; maximal_access = 0x1f_01ff }) else None

abbrev pub disk_id_told : Bool → ℕ → Option DiskId
disk_id_told asked file = if asked then Some (record { file = file; volume = 1 }) else None

abbrev pub contexts_told : CreateReply → ReplyContexts
contexts_told r = record {
  dh2q = option_map timeout_told r.timeout;
  mxac = access_told r.maximal;
  qfid = disk_id_told
      r.disk_id r.info.file;
}

-- no oplock is granted
abbrev pub created_value : CreateReply → CreateResponseValue
created_value r =
    record {
      oplock_level = 0;
      flags = 0;
      create_action = r.action;
      creation_time = r.info.times.created;
      last_access_time = r.info.times.accessed;
      last_write_time = r.info.times.written;
      change_time = r.info.times.changed;
      allocation_size = allocation r.info.size;
      end_of_file = r.info.size;
      file_attributes = attributes_of r.info;
      file_id = file_id r.id;
      contexts = reply_contexts_spelling (contexts_told r);
    }

-- ---- CLOSE (2.2.16): Flags say that times and lengths are told

abbrev pub closed_value : Info → CloseResponse
closed_value i =
    record {
      flags = 1;
      creation_time = i.times.created;
      last_access_time = i.times.accessed;
      last_write_time = i.times.written;
      change_time = i.times.changed;
      allocation_size = allocation i.size;
      end_of_file = i.size;
      file_attributes = attributes_of i;
    }

abbrev pub untold_value : CloseResponse
untold_value = record {
  flags = 0;
  creation_time = 0;
  last_access_time = 0;
  last_write_time = 0;
  change_time = 0;
  allocation_size = 0;
  end_of_file = 0;
  file_attributes = 0;
}

-- ---- the others (2.2.10, 2.2.20, 2.2.22, 2.2.32)

abbrev pub connected_value : ℕ → ℕ → ℕ → TreeConnectResponse
connected_value kind capabilities access = record {
  share_type = kind;
  share_flags = 0;
  capabilities = capabilities;
  maximal_access = access;
}

abbrev pub content_value : List ℕ → ReadResponseValue
content_value bytes = record { data_remaining = 0; payload = bytes }

abbrev pub count_value : ℕ → WriteResponse
count_value count = record { count = count; remaining = 0 }

abbrev pub interfaces_value : ℕ → ℕ → Address → IoctlResponseValue
interfaces_value file code address = record {
  ctl_code = code;
  file_id = file_id file;
  flags = 0;
  input = [];
  output =
      interface_bytes address;
}

abbrev pub object_id_value : ℕ → ℕ → ℕ → IoctlResponseValue
object_id_value file code number = record {
  ctl_code = code;
  file_id = file_id file;
  flags = 0;
  input = [];
  output =
      object_id_bytes number;
}

-- ---- the body of a success to a command, and of the interim response to a SESSION_SETUP, whose token is its dialog's

abbrev pub success_body : List ℕ → Command → Body → List ℕ
success_body token (Setup request) body = session_setup_response_spelling (record {
  session_flags = bit_if (seals_in
      body) 4;
  security = token;
})
success_body token Logoff body = bare_spelling
success_body token (TreeConnect share) (Connected kind capabilities access) = tree_connect_response_spelling
    (connected_value kind capabilities access)
success_body token TreeDisconnect body = bare_spelling
success_body token (Create request) (Created reply) = create_response_spelling (created_value reply)
success_body token (Close file query) (Closed info) = close_response_spelling (closed_value info)
success_body token (Close file query) Empty = close_response_spelling untold_value
success_body token (Flush file) body = flush_response_spelling (record {})
success_body token (Read file at size minimum channel) (Content bytes) = read_response_spelling (content_value bytes)
success_body token (Write file at bytes channel) (Count count) = write_response_spelling (count_value count)
success_body token (Lock file index number elements) body = lock_response_spelling (record {})
success_body token (Ioctl file code room) (Interfaces address) = ioctl_response_spelling (interfaces_value file code address)
success_body token (Ioctl file code room) (ObjectId number) = ioctl_response_spelling (object_id_value file code number)
success_body token (Aside status) body = bare_spelling
success_body token (ListDirectory file class restart single pattern room) (Listing told entries) =
    query_directory_response_spelling (record { output = listing_bytes told entries })
success_body token (QueryFile file class room) (FileInfo told path info access options position) = query_info_response_spelling
    (record { output = file_bytes told path info access options position })
success_body token (QueryVolume file class room) (VolumeInfo told size used) = query_info_response_spelling (record {
  output = volume_bytes told size used;
})
success_body token (SetInfo file setting) body = set_info_response_spelling (record {})
success_body token _ _ = []

-- another status has the error response (2.2.2) but for the interim one
abbrev pub is_told : Command → ℕ → Bool
is_told c status = (status == success) || (is_setup c && (status == more_processing_required))

unfoldable pub reply_body : List ℕ → Command → Reply → List ℕ
reply_body token c r = if is_told c r.status then success_body token c r.body else error_response_spelling (record {
  error_context_count = 0;
  byte_count = 0;
})
