-- What a success tells of a file, of a listing's entries, of a volume and of interfaces, as bytes (MS-FSCC 2.1.3, 2.4, 2.5,
-- MS-SMB2 2.2.32.5).
use Rattle.std.specs.Prelude.{ℕ, ◌+◌, ◌-◌, ◌*◌, ◌/◌, ◌%◌, ◌==◌, if◌then◌else◌, List, [], ◌∷◌, Option, Some, None, bit_and}
use Rattle.spec_wire.specs.declared.messages.class.FileBasicInformation.{FileBasicInformation}
use Rattle.spec_wire.specs.declared.messages.class.FileStandardInformation.{FileStandardInformation}
use Rattle.spec_wire.specs.declared.messages.class.FileNetworkOpenInformation.{FileNetworkOpenInformation}
use Rattle.spec_wire.specs.declared.messages.class.FileFsSizeInformation.{FileFsSizeInformation}
use Rattle.spec_wire.specs.declared.messages.class.FileFsSectorSizeInformation.{FileFsSectorSizeInformation}
use Rattle.spec_wire.specs.declared.messages.class.FileFsFullSizeInformation.{FileFsFullSizeInformation}
use Rattle.spec_wire.specs.declared.messages.class.NetworkInterface.{NetworkInterface}
use Rattle.spec_wire.specs.declared.messages.class.ObjectIdBuffer.{ObjectIdBuffer}
use Rattle.spec_wire.specs.declared.messages.directory_class.DirectoryClass.{DirectoryClass}
use Rattle.spec_wire.specs.declared.messages.directory_class.DirectoryClass.TheVariants as class
use Rattle.spec_wire.specs.messages.Places.{le}
use Rattle.spec_wire.specs.messages.Utf16.{utf16}
use Rattle.spec_wire.specs.messages.FileClasses.{file_basic_information_spelling, file_standard_information_spelling}
use Rattle.spec_wire.specs.messages.FileClasses.{file_internal_information_spelling, FileAllInformationValue}
use Rattle.spec_wire.specs.messages.FileClasses.{file_all_information_spelling, file_network_open_information_spelling}
use Rattle.spec_wire.specs.messages.VolumeClasses.{FileFsVolumeInformationValue, file_fs_volume_information_spelling}
use Rattle.spec_wire.specs.messages.VolumeClasses.{file_fs_size_information_spelling, file_fs_device_information_spelling}
use Rattle.spec_wire.specs.messages.VolumeClasses.{FileFsAttributeInformationValue, file_fs_attribute_information_spelling}
use Rattle.spec_wire.specs.messages.FileClasses.{file_ea_information_spelling, file_access_information_spelling}
use Rattle.spec_wire.specs.messages.FileClasses.{file_name_information_spelling, file_position_information_spelling}
use Rattle.spec_wire.specs.messages.FileClasses.{file_mode_information_spelling, file_alignment_information_spelling}
use Rattle.spec_wire.specs.messages.FileClasses.{FileStreamInformationValue, file_stream_information_spelling}
use Rattle.spec_wire.specs.messages.VolumeClasses.{file_fs_full_size_information_spelling, file_fs_sector_size_information_spelling}
use Rattle.spec_wire.specs.messages.Directory.{DirectoryEntryValue, listing_spelling}
use Rattle.spec_wire.specs.messages.Interfaces.{network_interface_spelling}
use Rattle.spec_wire.specs.messages.ObjectIds.{object_id_buffer_spelling}
use Rattle.spec_exchange.specs.Commands.{has_bit}
use Rattle.spec_exchange.specs.State.{Info, Named, Address}
use Rattle.spec_exchange.specs.Listing.{is_short_class}
use Rattle.spec_commands.specs.Ids.{object_id}
use Rattle.spec_commands.specs.Tables.{directory_class, bit_if}

-- ---- a file

-- AllocationSize: whole units of 4,096 bytes, which are 8 sectors of 512
unfoldable pub allocation : ℕ → ℕ
allocation size = ((size + 4095) / 4096) * 4096

unfoldable pub without_bit : ℕ → ℕ → ℕ
without_bit n bit = if has_bit n bit then n - bit else n

-- the attributes that are set of a file and tell nothing of what it is: NORMAL, 0x80, and DIRECTORY, 0x10, are passed over
abbrev pub plain_attributes : ℕ → ℕ
plain_attributes attributes = without_bit (without_bit attributes 0x80) 0x10

-- FileAttributes (MS-FSCC 2.6): a directory has DIRECTORY and no file has it; NORMAL is told alone, of a file that has no other
unfoldable pub attributes_of : Info → ℕ
attributes_of i =
    if i.is_directory then plain_attributes i.times.attributes + 0x10
    else if plain_attributes i.times.attributes == 0 then 0x80
    else plain_attributes i.times.attributes

abbrev pub basic_of : Info → FileBasicInformation
basic_of i = record {
  creation_time = i.times.created;
  last_access_time = i.times.accessed;
  last_write_time =
      i.times.written;
  change_time = i.times.changed;
  file_attributes = attributes_of i;
}

-- one link
abbrev pub standard_of : Info → FileStandardInformation
standard_of i = record {
  allocation_size = allocation i.size;
  end_of_file = i.size;
  number_of_links = 1;
  delete_pending
      = bit_if i.is_delete_pending 1;
  directory = bit_if i.is_directory 1;
}

-- the bits of an open's options that FileModeInformation names (MS-FSCC 2.4.26)
abbrev pub mode_of : ℕ → ℕ
mode_of options = bit_and options 0x103e

-- the name begins with `\`
abbrev pub all_of : List ℕ → Info → ℕ → ℕ → ℕ → FileAllInformationValue
all_of path i access options position =
    record {
      creation_time = i.times.created;
      last_access_time = i.times.accessed;
      last_write_time = i.times.written;
      change_time = i.times.changed;
      file_attributes = attributes_of i;
      allocation_size = allocation i.size;
      end_of_file = i.size;
      number_of_links = 1;
      delete_pending = bit_if i.is_delete_pending 1;
      directory = bit_if i.is_directory 1;
      index_number = i.file;
      access_flags = access;
      current_byte_offset = position;
      mode = mode_of options;
      name = utf16 (92 ∷ path);
    }

abbrev pub network_open_of : Info → FileNetworkOpenInformation
network_open_of i = record {
  creation_time = i.times.created;
  last_access_time = i.times.accessed;
  last_write_time =
      i.times.written;
  change_time = i.times.changed;
  allocation_size = allocation i.size;
  end_of_file = i.size;
  file_attributes = attributes_of i;
}

-- a file's bytes are its one stream, `::$DATA`; a directory has none
abbrev pub stream_of : Info → FileStreamInformationValue
stream_of i = record {
  next_entry_offset = 0;
  stream_size = i.size;
  stream_allocation_size = allocation i.size;
  name = utf16 (58 ∷ 58 ∷ 36 ∷ 68 ∷ 65 ∷ 84 ∷ 65 ∷ []);
}

abbrev pub streams_of : Info → List ℕ
streams_of i = if i.is_directory then [] else file_stream_information_spelling (stream_of i)

-- Of the classes of four bytes: no file has extended attributes (7), the access (8) is the open's, the mode (16) is told as 0
-- (this project's), and no alignment is needed (17).
unfoldable pub short_bytes : ℕ → ℕ → List ℕ
short_bytes class access =
    if class == 7 then file_ea_information_spelling (record { ea_size = 0 })
    else if class == 8 then file_access_information_spelling (record { access_flags = access })
    else if class == 16 then file_mode_information_spelling (record { mode = 0 })
    else file_alignment_information_spelling (record { alignment_requirement = 0 })

-- the classes that can be asked: 4, 5, 6, 34, 7, 8, 16, 17, 14, 22, 9 and 18
unfoldable pub file_bytes : ℕ → List ℕ → Info → ℕ → ℕ → ℕ → List ℕ
file_bytes class path i access options position =
    if class == 4 then file_basic_information_spelling (basic_of i)
    else if class == 5 then file_standard_information_spelling (standard_of i)
    else if class == 6 then file_internal_information_spelling (record { index_number = i.file })
    else if class == 34 then file_network_open_information_spelling (network_open_of i)
    else if is_short_class class then short_bytes class access
    else if class == 14 then file_position_information_spelling (record { current_byte_offset = position })
    else if class == 22 then streams_of i
    else if class == 9 then file_name_information_spelling (record { name = utf16 (92 ∷ path) })
    else file_all_information_spelling (all_of path i access options position)

-- ---- a volume: its number is 1, it has no label, and its file system is named NTFS

abbrev pub units : ℕ → ℕ
units bytes = bytes / 4096

abbrev pub volume_value : FileFsVolumeInformationValue
volume_value = record { volume_creation_time = 0; volume_serial_number = 1; supports_objects = 0; label = [] }

abbrev pub sizes_of : ℕ → ℕ → FileFsSizeInformation
sizes_of room used = record {
  total_allocation_units = units room;
  available_allocation_units = units (room - used);
  sectors_per_allocation_unit = 8;
  bytes_per_sector = 512;
}

abbrev pub full_sizes_of : ℕ → ℕ → FileFsFullSizeInformation
full_sizes_of room used = record {
  total_allocation_units = units room;
  caller_available_allocation_units = units (room
      - used);
  actual_available_allocation_units = units (room - used);
  sectors_per_allocation_unit = 8;
  bytes_per_sector
      = 512;
}

-- names keep their case, 2, and are Unicode, 4; a name is at most a path of 1,024 units
abbrev pub file_system : FileFsAttributeInformationValue
file_system = record { file_system_attributes = 6; maximum_component_name_length = 1024; name = utf16 (78 ∷ 84 ∷ 70 ∷ 83 ∷ []) }

-- a sector has 512 bytes and the disk's own 4,096, at which the device (1) and the partition (2) are aligned
abbrev pub sectors : FileFsSectorSizeInformation
sectors = record {
  logical_bytes_per_sector = 512;
  physical_bytes_per_sector_for_atomicity = 4096;
  physical_bytes_per_sector_for_performance = 4096;
  file_system_effective_physical_bytes_per_sector_for_atomicity = 4096;
  flags = 3;
  byte_offset_for_sector_alignment = 0;
  byte_offset_for_partition_alignment = 0;
}

-- the classes that can be asked: 1, 3, 4, 5, 11 and 7; the device is a disk, 7, and mounted, 0x20
unfoldable pub volume_bytes : ℕ → ℕ → ℕ → List ℕ
volume_bytes class room used =
    if class == 1 then file_fs_volume_information_spelling volume_value
    else if class == 3 then file_fs_size_information_spelling (sizes_of room used)
    else if class == 4 then file_fs_device_information_spelling (record { device_type = 7; characteristics = 0x20 })
    else if class == 5 then file_fs_attribute_information_spelling file_system
    else if class == 11 then file_fs_sector_size_information_spelling sectors
    else file_fs_full_size_information_spelling (full_sizes_of room used)

-- ---- the entries of a listing; what a class doesn't tell is 0

abbrev pub only_name : List ℕ → DirectoryEntryValue
only_name name = record {
  creation_time = 0;
  last_access_time = 0;
  last_write_time = 0;
  change_time = 0;
  end_of_file =
      0;
  allocation_size = 0;
  file_attributes = 0;
  file_id = 0;
  name = name;
}

abbrev pub with_info : Named → ℕ → DirectoryEntryValue
with_info n file =
    record {
      creation_time = n.info.times.created;
      last_access_time = n.info.times.accessed;
      last_write_time = n.info.times.written;
      change_time = n.info.times.changed;
      end_of_file = n.info.size;
      allocation_size = allocation n.info.size;
      file_attributes = attributes_of n.info;
      file_id = file;
      name = utf16 n.name;
    }

abbrev pub entry_of : DirectoryClass → Named → DirectoryEntryValue
entry_of class.Directory n = with_info n 0
entry_of class.FullDirectory n = with_info n 0
entry_of class.BothDirectory n = with_info n 0
entry_of class.Names n = only_name (utf16 n.name)
entry_of class.IdBothDirectory n = with_info n n.info.file
entry_of class.IdFullDirectory n = with_info n n.info.file

abbrev pub entries_of : DirectoryClass → List Named → List DirectoryEntryValue
entries_of c [] = []
entries_of c (n ∷ ns) = entry_of c n ∷ entries_of c ns

abbrev pub listing_of : Option DirectoryClass → List Named → List ℕ
listing_of None ns = []
listing_of (Some c) ns = listing_spelling c (entries_of c ns)

unfoldable pub listing_bytes : ℕ → List Named → List ℕ
listing_bytes class ns = listing_of (directory_class class) ns

-- ---- interfaces: one, of IPv4 (family 2), told at 10 Gbit/s; the address has its highest byte first, and the port is
-- reserved: a server writes 0 (MS-SMB2 2.2.32.5.1.1)

abbrev pub interface_of : Address → NetworkInterface
interface_of a =
    record {
      next = 0;
      if_index = 1;
      capability = 0;
      link_speed = 10000000000;
      family = 2;
      port = 0 ∷ 0 ∷ [];
      address = (a.ip / 16777216) ∷ ((a.ip / 65536) % 256) ∷ ((a.ip / 256) % 256) ∷ (a.ip % 256) ∷ [];
    }

unfoldable pub interface_bytes : Address → List ℕ
interface_bytes a = network_interface_spelling (interface_of a)

-- ---- an object id: the birth's is the same, and the volume has none, which 0 tells (MS-FSCC 2.1.3.1)

abbrev pub object_id_of : ℕ → ObjectIdBuffer
object_id_of file = record {
  object_id = object_id file;
  birth_volume_id = le 16 0;
  birth_object_id = object_id file;
}

unfoldable pub object_id_bytes : ℕ → List ℕ
object_id_bytes file = object_id_buffer_spelling (object_id_of file)
