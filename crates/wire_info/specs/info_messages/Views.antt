-- The messages that borrow their variable parts, as the values that they stand for.
use Rattle.spec_wire.specs.messages.Ioctl.{IoctlRequestValue, IoctlResponseValue}
use Rattle.spec_wire.specs.messages.QueryDirectory.{QueryDirectoryRequestValue, QueryDirectoryResponseValue}
use Rattle.spec_wire.specs.messages.QueryInfo.{QueryInfoRequestValue, QueryInfoResponseValue}
use Rattle.spec_wire.specs.messages.SetInfo.{SetInfoRequestValue}
use Rattle.wire_info.specs.declared.info_messages.ioctl.IoctlRequest.{IoctlRequest}
use Rattle.wire_info.specs.declared.info_messages.ioctl.IoctlResponse.{IoctlResponse}
use Rattle.wire_info.specs.declared.info_messages.query_directory.QueryDirectoryRequest.{QueryDirectoryRequest}
use Rattle.wire_info.specs.declared.info_messages.query_directory.QueryDirectoryResponse.{QueryDirectoryResponse}
use Rattle.wire_info.specs.declared.info_messages.query_info.QueryInfoRequest.{QueryInfoRequest}
use Rattle.wire_info.specs.declared.info_messages.query_info.QueryInfoResponse.{QueryInfoResponse}
use Rattle.wire_info.specs.declared.info_messages.set_info.SetInfoRequest.{SetInfoRequest}

abbrev pub ioctl_request : IoctlRequest → IoctlRequestValue
ioctl_request v = record {
  ctl_code = v.ctl_code;
  file_id = v.file_id;
  max_input_response = v.max_input_response;
  max_output_response = v.max_output_response;
  flags = v.flags;
  input = v.input.now;
  output = v.output.now;
}

abbrev pub ioctl_response : IoctlResponse → IoctlResponseValue
ioctl_response v = record { ctl_code = v.ctl_code; file_id = v.file_id; flags = v.flags; input = v.input.now; output = v.output.now }

abbrev pub query_directory_request : QueryDirectoryRequest → QueryDirectoryRequestValue
query_directory_request v = record {
  file_information_class = v.file_information_class;
  flags = v.flags;
  file_index = v.file_index;
  file_id = v.file_id;
  output_buffer_length = v.output_buffer_length;
  name = v.name.now;
}

abbrev pub query_directory_response : QueryDirectoryResponse → QueryDirectoryResponseValue
query_directory_response v = record { output = v.output.now }

abbrev pub query_info_request : QueryInfoRequest → QueryInfoRequestValue
query_info_request v = record {
  info_type = v.info_type;
  file_info_class = v.file_info_class;
  output_buffer_length = v.output_buffer_length;
  additional_information = v.additional_information;
  flags = v.flags;
  file_id = v.file_id;
  input = v.input.now;
}

abbrev pub query_info_response : QueryInfoResponse → QueryInfoResponseValue
query_info_response v = record { output = v.output.now }

abbrev pub set_info_request : SetInfoRequest → SetInfoRequestValue
set_info_request v = record {
  info_type = v.info_type;
  file_info_class = v.file_info_class;
  additional_information = v.additional_information;
  file_id = v.file_id;
  payload = v.payload.now;
}
