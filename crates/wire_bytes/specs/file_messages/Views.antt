-- The messages that borrow their variable parts, as the values that they stand for.
use Rattle.spec_wire.specs.messages.Read.{ReadResponseValue}
use Rattle.spec_wire.specs.messages.Write.{WriteRequestValue}
use Rattle.spec_wire.specs.messages.Lock.{LockRequestValue}
use Rattle.spec_wire.specs.messages.Create.{CreateRequestValue}
use Rattle.spec_wire.specs.messages.CreateResponse.{CreateResponseValue}
use Rattle.wire_bytes.specs.declared.file_messages.read.ReadResponse.{ReadResponse}
use Rattle.wire_bytes.specs.declared.file_messages.write.WriteRequest.{WriteRequest}
use Rattle.wire_bytes.specs.declared.file_messages.lock.LockRequest.{LockRequest}
use Rattle.wire_bytes.specs.declared.file_messages.create.CreateRequest.{CreateRequest}
use Rattle.wire_bytes.specs.declared.file_messages.create.CreateResponse.{CreateResponse}

abbrev pub read_response : ReadResponse → ReadResponseValue
read_response v = record { data_remaining = v.data_remaining; payload = v.payload.now }

abbrev pub write_request : WriteRequest → WriteRequestValue
write_request v = record {
  offset = v.offset;
  file_id = v.file_id;
  channel = v.channel;
  remaining_bytes = v.remaining_bytes;
  flags = v.flags;
  payload = v.payload.now;
}

abbrev pub lock_request : LockRequest → LockRequestValue
lock_request v = record { lock_sequence = v.lock_sequence; file_id = v.file_id; locks = v.locks.now }

abbrev pub message_create_request : CreateRequest → CreateRequestValue
message_create_request v = record {
  requested_oplock_level = v.requested_oplock_level;
  impersonation_level = v.impersonation_level;
  desired_access = v.desired_access;
  file_attributes = v.file_attributes;
  share_access = v.share_access;
  create_disposition = v.create_disposition;
  create_options = v.create_options;
  name = v.name.now;
  contexts = v.contexts.now;
}

abbrev pub create_response : CreateResponse → CreateResponseValue
create_response v = record {
  oplock_level = v.oplock_level;
  flags = v.flags;
  create_action = v.create_action;
  creation_time = v.creation_time;
  last_access_time = v.last_access_time;
  last_write_time = v.last_write_time;
  change_time = v.change_time;
  allocation_size = v.allocation_size;
  end_of_file = v.end_of_file;
  file_attributes = v.file_attributes;
  file_id = v.file_id;
  contexts = v.contexts.now;
}
