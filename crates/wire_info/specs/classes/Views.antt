-- The classes that borrow a name, as the values that they stand for.
use Rattle.spec_wire.specs.messages.FileClasses.{FileNameInformationValue, FileRenameInformationValue}
use Rattle.spec_wire.specs.messages.FileClasses.{FileAllInformationValue, FileStreamInformationValue}
use Rattle.spec_wire.specs.messages.VolumeClasses.{FileFsVolumeInformationValue, FileFsAttributeInformationValue}
use Rattle.spec_wire.specs.messages.Directory.{DirectoryEntryValue}
use Rattle.wire_info.specs.declared.classes.directory_entry.DirectoryEntry.{DirectoryEntry}
use Rattle.wire_info.specs.declared.classes.named.FileNameInformation.{FileNameInformation}
use Rattle.wire_info.specs.declared.classes.named.FileRenameInformation.{FileRenameInformation}
use Rattle.wire_info.specs.declared.classes.named.FileAllInformation.{FileAllInformation}
use Rattle.wire_info.specs.declared.classes.named.FileStreamInformation.{FileStreamInformation}
use Rattle.wire_info.specs.declared.classes.named.FileFsVolumeInformation.{FileFsVolumeInformation}
use Rattle.wire_info.specs.declared.classes.named.FileFsAttributeInformation.{FileFsAttributeInformation}

abbrev pub file_name_information : FileNameInformation → FileNameInformationValue
file_name_information v = record { name = v.name.now }

abbrev pub file_rename_information : FileRenameInformation → FileRenameInformationValue
file_rename_information v = record { replace_if_exists = v.replace_if_exists; root_directory = v.root_directory; name = v.name.now }

abbrev pub file_all_information : FileAllInformation → FileAllInformationValue
file_all_information v = record {
  creation_time = v.creation_time;
  last_access_time = v.last_access_time;
  last_write_time = v.last_write_time;
  change_time = v.change_time;
  file_attributes = v.file_attributes;
  allocation_size = v.allocation_size;
  end_of_file = v.end_of_file;
  number_of_links = v.number_of_links;
  delete_pending = v.delete_pending;
  directory = v.directory;
  index_number = v.index_number;
  access_flags = v.access_flags;
  current_byte_offset = v.current_byte_offset;
  mode = v.mode;
  name = v.name.now;
}

abbrev pub file_stream_information : FileStreamInformation → FileStreamInformationValue
file_stream_information v = record {
  next_entry_offset = v.next_entry_offset;
  stream_size = v.stream_size;
  stream_allocation_size = v.stream_allocation_size;
  name = v.name.now;
}

abbrev pub file_fs_volume_information : FileFsVolumeInformation → FileFsVolumeInformationValue
file_fs_volume_information v = record {
  volume_creation_time = v.volume_creation_time;
  volume_serial_number = v.volume_serial_number;
  supports_objects = v.supports_objects;
  label = v.label.now;
}

abbrev pub file_fs_attribute_information : FileFsAttributeInformation → FileFsAttributeInformationValue
file_fs_attribute_information v = record {
  file_system_attributes = v.file_system_attributes;
  maximum_component_name_length = v.maximum_component_name_length;
  name = v.name.now;
}

abbrev pub directory_entry : DirectoryEntry → DirectoryEntryValue
directory_entry v = record {
  creation_time = v.creation_time;
  last_access_time = v.last_access_time;
  last_write_time = v.last_write_time;
  change_time = v.change_time;
  end_of_file = v.end_of_file;
  allocation_size = v.allocation_size;
  file_attributes = v.file_attributes;
  file_id = v.file_id;
  name = v.name.now;
}
