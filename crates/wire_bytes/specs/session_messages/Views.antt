-- The messages that borrow their variable parts, as the values that they stand for.
use Rattle.spec_wire.specs.messages.Negotiate.{NegotiateRequestValue, NegotiateResponseValue}
use Rattle.spec_wire.specs.messages.SessionSetup.{SessionSetupRequestValue, SessionSetupResponseValue}
use Rattle.spec_wire.specs.messages.TreeConnect.{TreeConnectRequestValue}
use Rattle.wire_bytes.specs.declared.session_messages.negotiate.NegotiateRequest.{NegotiateRequest}
use Rattle.wire_bytes.specs.declared.session_messages.negotiate.NegotiateResponse.{NegotiateResponse}
use Rattle.wire_bytes.specs.declared.session_messages.session_setup.SessionSetupRequest.{SessionSetupRequest}
use Rattle.wire_bytes.specs.declared.session_messages.session_setup.SessionSetupResponse.{SessionSetupResponse}
use Rattle.wire_bytes.specs.declared.session_messages.tree_connect.TreeConnectRequest.{TreeConnectRequest}

abbrev pub negotiate_request : NegotiateRequest → NegotiateRequestValue
negotiate_request v =
    record {
      security_mode = v.security_mode;
      capabilities = v.capabilities;
      client_guid = v.client_guid;
      negotiate_context_count = v.negotiate_context_count;
      dialects = v.dialects.now;
      contexts = v.contexts.now;
    }

abbrev pub negotiate_response : NegotiateResponse → NegotiateResponseValue
negotiate_response v =
    record {
      security_mode = v.security_mode;
      dialect_revision = v.dialect_revision;
      negotiate_context_count = v.negotiate_context_count;
      server_guid = v.server_guid;
      capabilities = v.capabilities;
      max_transact_size = v.max_transact_size;
      max_read_size = v.max_read_size;
      max_write_size = v.max_write_size;
      system_time = v.system_time;
      server_start_time = v.server_start_time;
      security = v.security.now;
      contexts = v.contexts.now;
    }

abbrev pub session_setup_request : SessionSetupRequest → SessionSetupRequestValue
session_setup_request v =
    record {
      flags = v.flags;
      security_mode = v.security_mode;
      capabilities = v.capabilities;
      channel = v.channel;
      previous_session_id = v.previous_session_id;
      security = v.security.now;
    }

abbrev pub session_setup_response : SessionSetupResponse → SessionSetupResponseValue
session_setup_response v = record { session_flags = v.session_flags; security = v.security.now }

abbrev pub tree_connect_request : TreeConnectRequest → TreeConnectRequestValue
tree_connect_request v = record { flags = v.flags; path = v.path.now }
