-- Status numbers (MS-ERREF 2.3.1).
use Rattle.std.specs.Prelude.{ℕ}

abbrev pub success : ℕ
success = 0x0

abbrev pub pending : ℕ
pending = 0x103

abbrev pub no_more_files : ℕ
no_more_files = 0x8000_0006

abbrev pub invalid_info_class : ℕ
invalid_info_class = 0xc000_0003

abbrev pub info_length_mismatch : ℕ
info_length_mismatch = 0xc000_0004

abbrev pub invalid_parameter : ℕ
invalid_parameter = 0xc000_000d

abbrev pub no_such_file : ℕ
no_such_file = 0xc000_000f

abbrev pub invalid_device_request : ℕ
invalid_device_request = 0xc000_0010

abbrev pub end_of_file : ℕ
end_of_file = 0xc000_0011

abbrev pub more_processing_required : ℕ
more_processing_required = 0xc000_0016

abbrev pub no_memory : ℕ
no_memory = 0xc000_0017

abbrev pub access_denied : ℕ
access_denied = 0xc000_0022

abbrev pub object_name_invalid : ℕ
object_name_invalid = 0xc000_0033

abbrev pub object_name_not_found : ℕ
object_name_not_found = 0xc000_0034

abbrev pub object_name_collision : ℕ
object_name_collision = 0xc000_0035

abbrev pub object_path_not_found : ℕ
object_path_not_found = 0xc000_003a

abbrev pub sharing_violation : ℕ
sharing_violation = 0xc000_0043

abbrev pub file_lock_conflict : ℕ
file_lock_conflict = 0xc000_0054

abbrev pub lock_not_granted : ℕ
lock_not_granted = 0xc000_0055

abbrev pub delete_pending : ℕ
delete_pending = 0xc000_0056

abbrev pub logon_failure : ℕ
logon_failure = 0xc000_006d

abbrev pub range_not_locked : ℕ
range_not_locked = 0xc000_007e

abbrev pub disk_full : ℕ
disk_full = 0xc000_007f

abbrev pub insufficient_resources : ℕ
insufficient_resources = 0xc000_009a

abbrev pub file_is_a_directory : ℕ
file_is_a_directory = 0xc000_00ba

abbrev pub not_supported : ℕ
not_supported = 0xc000_00bb

abbrev pub network_name_deleted : ℕ
network_name_deleted = 0xc000_00c9

abbrev pub bad_network_name : ℕ
bad_network_name = 0xc000_00cc

abbrev pub request_not_accepted : ℕ
request_not_accepted = 0xc000_00d0

abbrev pub directory_not_empty : ℕ
directory_not_empty = 0xc000_0101

abbrev pub not_a_directory : ℕ
not_a_directory = 0xc000_0103

abbrev pub cannot_delete : ℕ
cannot_delete = 0xc000_0121

abbrev pub file_closed : ℕ
file_closed = 0xc000_0128

abbrev pub fs_driver_required : ℕ
fs_driver_required = 0xc000_019c

abbrev pub invalid_lock_range : ℕ
invalid_lock_range = 0xc000_01a1

abbrev pub user_session_deleted : ℕ
user_session_deleted = 0xc000_0203

abbrev pub duplicate_objectid : ℕ
duplicate_objectid = 0xc000_022a

abbrev pub file_not_available : ℕ
file_not_available = 0xc000_0467
