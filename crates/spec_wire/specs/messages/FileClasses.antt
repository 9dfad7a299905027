-- The information classes of a file (MS-FSCC 2.4). Each is a list of bytes of its own, without a header.
use Rattle.std.specs.Prelude.{ℕ, List, [], ◌∷◌, Option, ◌++◌, length}
use Rattle.spec_wire.specs.messages.Places.{number, bytes_at}
use Rattle.spec_wire.specs.messages.Table.{Field, Num, Raw, Any, Stands, with_fields, AreWritable, widths, IsPart}
use Rattle.spec_wire.specs.messages.Fault.{◌or_else◌, short_fault, part_fault}
use Rattle.spec_wire.specs.declared.messages.error.MessageError.{MessageError}
use Rattle.spec_wire.specs.declared.messages.error.Part.TheVariants.{Name}
use Rattle.spec_wire.specs.declared.messages.class.FileBasicInformation.{FileBasicInformation}
use Rattle.spec_wire.specs.declared.messages.class.FileStandardInformation.{FileStandardInformation}
use Rattle.spec_wire.specs.declared.messages.class.FileInternalInformation.{FileInternalInformation}
use Rattle.spec_wire.specs.declared.messages.class.FileDispositionInformation.{FileDispositionInformation}
use Rattle.spec_wire.specs.declared.messages.class.FileAllocationInformation.{FileAllocationInformation}
use Rattle.spec_wire.specs.declared.messages.class.FileEndOfFileInformation.{FileEndOfFileInformation}
use Rattle.spec_wire.specs.declared.messages.class.FileNetworkOpenInformation.{FileNetworkOpenInformation}
use Rattle.spec_wire.specs.declared.messages.class.FileEaInformation.{FileEaInformation}
use Rattle.spec_wire.specs.declared.messages.class.FileAccessInformation.{FileAccessInformation}
use Rattle.spec_wire.specs.declared.messages.class.FilePositionInformation.{FilePositionInformation}
use Rattle.spec_wire.specs.declared.messages.class.FileModeInformation.{FileModeInformation}
use Rattle.spec_wire.specs.declared.messages.class.FileAlignmentInformation.{FileAlignmentInformation}

-- FileBasicInformation, class 4, asked and set (MS-FSCC 2.4.7): CreationTime, LastAccessTime, LastWriteTime,
-- ChangeTime, FileAttributes, Reserved.
abbrev pub file_basic_information_table : FileBasicInformation → List Field
file_basic_information_table v =
    Num 8 v.creation_time ∷ Num 8 v.last_access_time ∷ Num 8 v.last_write_time ∷ Num 8 v.change_time
    ∷ Num 4 v.file_attributes ∷ Any 4 ∷ []

-- m is this information; other bytes may follow
abbrev pub SpellsFileBasicInformation : List ℕ → FileBasicInformation → Type 0
SpellsFileBasicInformation m v = Stands m 0 (file_basic_information_table v)

-- the information that stands in m
abbrev pub file_basic_information_in : List ℕ → FileBasicInformation
file_basic_information_in m = record {
  creation_time = number 8 m 0;
  last_access_time = number 8 m 8;
  last_write_time = number 8 m 16;
  change_time = number 8 m 24;
  file_attributes = number 4 m 32;
}

abbrev pub file_basic_information_fault : List ℕ → Option MessageError
file_basic_information_fault m = short_fault m 0 (widths (file_basic_information_table (file_basic_information_in m)))

abbrev pub IsWritableFileBasicInformation : FileBasicInformation → Type 0
IsWritableFileBasicInformation v = AreWritable (file_basic_information_table v)

abbrev pub file_basic_information_spelling : FileBasicInformation → List ℕ
file_basic_information_spelling v = with_fields [] (file_basic_information_table v)

-- FileStandardInformation, class 5 (MS-FSCC 2.4.41): AllocationSize, EndOfFile, NumberOfLinks, DeletePending,
-- Directory, Reserved.
abbrev pub file_standard_information_table : FileStandardInformation → List Field
file_standard_information_table v =
    Num 8 v.allocation_size ∷ Num 8 v.end_of_file ∷ Num 4 v.number_of_links ∷ Num 1 v.delete_pending
    ∷ Num 1 v.directory ∷ Any 2 ∷ []

-- m is this information; other bytes may follow
abbrev pub SpellsFileStandardInformation : List ℕ → FileStandardInformation → Type 0
SpellsFileStandardInformation m v = Stands m 0 (file_standard_information_table v)

-- the information that stands in m
abbrev pub file_standard_information_in : List ℕ → FileStandardInformation
file_standard_information_in m = record {
  allocation_size = number 8 m 0;
  end_of_file = number 8 m 8;
  number_of_links = number 4 m 16;
  delete_pending = number 1 m 20;
  directory = number 1 m 21;
}

abbrev pub file_standard_information_fault : List ℕ → Option MessageError
file_standard_information_fault m =
    short_fault m 0 (widths (file_standard_information_table (file_standard_information_in m)))

abbrev pub IsWritableFileStandardInformation : FileStandardInformation → Type 0
IsWritableFileStandardInformation v = AreWritable (file_standard_information_table v)

abbrev pub file_standard_information_spelling : FileStandardInformation → List ℕ
file_standard_information_spelling v = with_fields [] (file_standard_information_table v)

-- FileInternalInformation, class 6 (MS-FSCC 2.4.22): IndexNumber.
abbrev pub file_internal_information_table : FileInternalInformation → List Field
file_internal_information_table v = Num 8 v.index_number ∷ []

-- m is this information; other bytes may follow
abbrev pub SpellsFileInternalInformation : List ℕ → FileInternalInformation → Type 0
SpellsFileInternalInformation m v = Stands m 0 (file_internal_information_table v)

-- the information that stands in m
abbrev pub file_internal_information_in : List ℕ → FileInternalInformation
file_internal_information_in m = record { index_number = number 8 m 0 }

abbrev pub file_internal_information_fault : List ℕ → Option MessageError
file_internal_information_fault m =
    short_fault m 0 (widths (file_internal_information_table (file_internal_information_in m)))

abbrev pub IsWritableFileInternalInformation : FileInternalInformation → Type 0
IsWritableFileInternalInformation v = AreWritable (file_internal_information_table v)

abbrev pub file_internal_information_spelling : FileInternalInformation → List ℕ
file_internal_information_spelling v = with_fields [] (file_internal_information_table v)

-- FileEaInformation, class 7 (MS-FSCC 2.4.12): EaSize.
abbrev pub file_ea_information_table : FileEaInformation → List Field
file_ea_information_table v = Num 4 v.ea_size ∷ []

-- m is this information; other bytes may follow
abbrev pub SpellsFileEaInformation : List ℕ → FileEaInformation → Type 0
SpellsFileEaInformation m v = Stands m 0 (file_ea_information_table v)

-- the information that stands in m
abbrev pub file_ea_information_in : List ℕ → FileEaInformation
file_ea_information_in m = record { ea_size = number 4 m 0 }

abbrev pub file_ea_information_fault : List ℕ → Option MessageError
file_ea_information_fault m =
    short_fault m 0 (widths (file_ea_information_table (file_ea_information_in m)))

abbrev pub IsWritableFileEaInformation : FileEaInformation → Type 0
IsWritableFileEaInformation v = AreWritable (file_ea_information_table v)

abbrev pub file_ea_information_spelling : FileEaInformation → List ℕ
file_ea_information_spelling v = with_fields [] (file_ea_information_table v)

-- FileAccessInformation, class 8 (MS-FSCC 2.4.1): AccessFlags.
abbrev pub file_access_information_table : FileAccessInformation → List Field
file_access_information_table v = Num 4 v.access_flags ∷ []

-- m is this information; other bytes may follow
abbrev pub SpellsFileAccessInformation : List ℕ → FileAccessInformation → Type 0
SpellsFileAccessInformation m v = Stands m 0 (file_access_information_table v)

-- the information that stands in m
abbrev pub file_access_information_in : List ℕ → FileAccessInformation
file_access_information_in m = record { access_flags = number 4 m 0 }

abbrev pub file_access_information_fault : List ℕ → Option MessageError
file_access_information_fault m =
    short_fault m 0 (widths (file_access_information_table (file_access_information_in m)))

abbrev pub IsWritableFileAccessInformation : FileAccessInformation → Type 0
IsWritableFileAccessInformation v = AreWritable (file_access_information_table v)

abbrev pub file_access_information_spelling : FileAccessInformation → List ℕ
file_access_information_spelling v = with_fields [] (file_access_information_table v)

pub record FileNameInformationValue : Type 0 where
  pub name : List ℕ

-- FileNameInformation, class 9 (MS-FSCC 2.1.7): length of the name.
abbrev pub file_name_information_table : FileNameInformationValue → List Field
file_name_information_table v = Num 4 (length v.name) ∷ []

-- m is this information; other bytes may follow
pub record SpellsFileNameInformation (m : List ℕ) (v : FileNameInformationValue) : Type 0 where
  pub fixed : Stands m 0 (file_name_information_table v)
  pub name : IsPart m 4 (number 4 m 0) 4 v.name

-- the information that stands in m
abbrev pub file_name_information_in : List ℕ → FileNameInformationValue
file_name_information_in m = record { name = bytes_at (number 4 m 0) m 4 }

abbrev pub file_name_information_fault : List ℕ → Option MessageError
file_name_information_fault m =
    short_fault m 0 (widths (file_name_information_table (file_name_information_in m)))
    or_else part_fault m 4 (number 4 m 0) 4 Name

-- what is written: the name stands behind the fixed part
abbrev pub file_name_information_whole : FileNameInformationValue → List Field
file_name_information_whole v = file_name_information_table v ++ Raw (length v.name) v.name ∷ []

abbrev pub IsWritableFileNameInformation : FileNameInformationValue → Type 0
IsWritableFileNameInformation v = AreWritable (file_name_information_whole v)

abbrev pub file_name_information_spelling : FileNameInformationValue → List ℕ
file_name_information_spelling v = with_fields [] (file_name_information_whole v)

pub record FileRenameInformationValue : Type 0 where
  pub replace_if_exists : ℕ
  pub root_directory : ℕ
  pub name : List ℕ

-- FileRenameInformation, class 10, set (MS-FSCC 2.4.37.2): ReplaceIfExists, Reserved, RootDirectory, length of the
-- name.
abbrev pub file_rename_information_table : FileRenameInformationValue → List Field
file_rename_information_table v =
    Num 1 v.replace_if_exists ∷ Any 7 ∷ Num 8 v.root_directory ∷ Num 4 (length v.name) ∷ []

-- m is this information; other bytes may follow
pub record SpellsFileRenameInformation (m : List ℕ) (v : FileRenameInformationValue) : Type 0 where
  pub fixed : Stands m 0 (file_rename_information_table v)
  pub name : IsPart m 20 (number 4 m 16) 20 v.name

-- the information that stands in m
abbrev pub file_rename_information_in : List ℕ → FileRenameInformationValue
file_rename_information_in m = record {
  replace_if_exists = number 1 m 0;
  root_directory = number 8 m 8;
  name = bytes_at (number 4 m 16) m 20;
}

abbrev pub file_rename_information_fault : List ℕ → Option MessageError
file_rename_information_fault m =
    short_fault m 0 (widths (file_rename_information_table (file_rename_information_in m)))
    or_else part_fault m 20 (number 4 m 16) 20 Name

-- what is written: the name stands behind the fixed part
abbrev pub file_rename_information_whole : FileRenameInformationValue → List Field
file_rename_information_whole v = file_rename_information_table v ++ Raw (length v.name) v.name ∷ []

abbrev pub IsWritableFileRenameInformation : FileRenameInformationValue → Type 0
IsWritableFileRenameInformation v = AreWritable (file_rename_information_whole v)

abbrev pub file_rename_information_spelling : FileRenameInformationValue → List ℕ
file_rename_information_spelling v = with_fields [] (file_rename_information_whole v)

-- FileDispositionInformation, class 13, set (MS-FSCC 2.4.11): DeletePending.
abbrev pub file_disposition_information_table : FileDispositionInformation → List Field
file_disposition_information_table v = Num 1 v.delete_pending ∷ []

-- m is this information; other bytes may follow
abbrev pub SpellsFileDispositionInformation : List ℕ → FileDispositionInformation → Type 0
SpellsFileDispositionInformation m v = Stands m 0 (file_disposition_information_table v)

-- the information that stands in m
abbrev pub file_disposition_information_in : List ℕ → FileDispositionInformation
file_disposition_information_in m = record { delete_pending = number 1 m 0 }

abbrev pub file_disposition_information_fault : List ℕ → Option MessageError
file_disposition_information_fault m =
    short_fault m 0 (widths (file_disposition_information_table (file_disposition_information_in m)))

abbrev pub IsWritableFileDispositionInformation : FileDispositionInformation → Type 0
IsWritableFileDispositionInformation v = AreWritable (file_disposition_information_table v)

abbrev pub file_disposition_information_spelling : FileDispositionInformation → List ℕ
file_disposition_information_spelling v = with_fields [] (file_disposition_information_table v)

-- FilePositionInformation, class 14, asked and set (MS-FSCC 2.4.35): CurrentByteOffset.
abbrev pub file_position_information_table : FilePositionInformation → List Field
file_position_information_table v = Num 8 v.current_byte_offset ∷ []

-- m is this information; other bytes may follow
abbrev pub SpellsFilePositionInformation : List ℕ → FilePositionInformation → Type 0
SpellsFilePositionInformation m v = Stands m 0 (file_position_information_table v)

-- the information that stands in m
abbrev pub file_position_information_in : List ℕ → FilePositionInformation
file_position_information_in m = record { current_byte_offset = number 8 m 0 }

abbrev pub file_position_information_fault : List ℕ → Option MessageError
file_position_information_fault m =
    short_fault m 0 (widths (file_position_information_table (file_position_information_in m)))

abbrev pub IsWritableFilePositionInformation : FilePositionInformation → Type 0
IsWritableFilePositionInformation v = AreWritable (file_position_information_table v)

abbrev pub file_position_information_spelling : FilePositionInformation → List ℕ
file_position_information_spelling v = with_fields [] (file_position_information_table v)

-- FileModeInformation, class 16, asked and set (MS-FSCC 2.4.26): Mode.
abbrev pub file_mode_information_table : FileModeInformation → List Field
file_mode_information_table v = Num 4 v.mode ∷ []

-- m is this information; other bytes may follow
abbrev pub SpellsFileModeInformation : List ℕ → FileModeInformation → Type 0
SpellsFileModeInformation m v = Stands m 0 (file_mode_information_table v)

-- the information that stands in m
abbrev pub file_mode_information_in : List ℕ → FileModeInformation
file_mode_information_in m = record { mode = number 4 m 0 }

abbrev pub file_mode_information_fault : List ℕ → Option MessageError
file_mode_information_fault m =
    short_fault m 0 (widths (file_mode_information_table (file_mode_information_in m)))

abbrev pub IsWritableFileModeInformation : FileModeInformation → Type 0
IsWritableFileModeInformation v = AreWritable (file_mode_information_table v)

abbrev pub file_mode_information_spelling : FileModeInformation → List ℕ
file_mode_information_spelling v = with_fields [] (file_mode_information_table v)

-- FileAlignmentInformation, class 17 (MS-FSCC 2.4.3): AlignmentRequirement.
abbrev pub file_alignment_information_table : FileAlignmentInformation → List Field
file_alignment_information_table v = Num 4 v.alignment_requirement ∷ []

-- m is this information; other bytes may follow
abbrev pub SpellsFileAlignmentInformation : List ℕ → FileAlignmentInformation → Type 0
SpellsFileAlignmentInformation m v = Stands m 0 (file_alignment_information_table v)

-- the information that stands in m
abbrev pub file_alignment_information_in : List ℕ → FileAlignmentInformation
file_alignment_information_in m = record { alignment_requirement = number 4 m 0 }

abbrev pub file_alignment_information_fault : List ℕ → Option MessageError
file_alignment_information_fault m =
    short_fault m 0 (widths (file_alignment_information_table (file_alignment_information_in m)))

abbrev pub IsWritableFileAlignmentInformation : FileAlignmentInformation → Type 0
IsWritableFileAlignmentInformation v = AreWritable (file_alignment_information_table v)

abbrev pub file_alignment_information_spelling : FileAlignmentInformation → List ℕ
file_alignment_information_spelling v = with_fields [] (file_alignment_information_table v)

pub record FileAllInformationValue : Type 0 where
  pub creation_time : ℕ
  pub last_access_time : ℕ
  pub last_write_time : ℕ
  pub change_time : ℕ
  pub file_attributes : ℕ
  pub allocation_size : ℕ
  pub end_of_file : ℕ
  pub number_of_links : ℕ
  pub delete_pending : ℕ
  pub directory : ℕ
  pub index_number : ℕ
  pub access_flags : ℕ
  pub current_byte_offset : ℕ
  pub mode : ℕ
  pub name : List ℕ

-- FileAllInformation, class 18 (MS-FSCC 2.4.2): CreationTime, LastAccessTime, LastWriteTime, ChangeTime,
-- FileAttributes, Reserved, AllocationSize, EndOfFile, NumberOfLinks, DeletePending, Directory, Reserved2,
-- IndexNumber, EaSize, AccessFlags, CurrentByteOffset, Mode, AlignmentRequirement, length of the name. EaSize and
-- AlignmentRequirement are passed over.
abbrev pub file_all_information_table : FileAllInformationValue → List Field
file_all_information_table v =
    Num 8 v.creation_time ∷ Num 8 v.last_access_time ∷ Num 8 v.last_write_time ∷ Num 8 v.change_time
    ∷ Num 4 v.file_attributes ∷ Any 4 ∷ Num 8 v.allocation_size ∷ Num 8 v.end_of_file ∷ Num 4 v.number_of_links
    ∷ Num 1 v.delete_pending ∷ Num 1 v.directory ∷ Any 2 ∷ Num 8 v.index_number ∷ Any 4 ∷ Num 4 v.access_flags
    ∷ Num 8 v.current_byte_offset ∷ Num 4 v.mode ∷ Any 4 ∷ Num 4 (length v.name) ∷ []

-- m is this information; other bytes may follow
pub record SpellsFileAllInformation (m : List ℕ) (v : FileAllInformationValue) : Type 0 where
  pub fixed : Stands m 0 (file_all_information_table v)
  pub name : IsPart m 100 (number 4 m 96) 100 v.name

-- the information that stands in m
abbrev pub file_all_information_in : List ℕ → FileAllInformationValue
file_all_information_in m = record {
  creation_time = number 8 m 0;
  last_access_time = number 8 m 8;
  last_write_time = number 8 m 16;
  change_time = number 8 m 24;
  file_attributes = number 4 m 32;
  allocation_size = number 8 m 40;
  end_of_file = number 8 m 48;
  number_of_links = number 4 m 56;
  delete_pending = number 1 m 60;
  directory = number 1 m 61;
  index_number = number 8 m 64;
  access_flags = number 4 m 76;
  current_byte_offset = number 8 m 80;
  mode = number 4 m 88;
  name = bytes_at (number 4 m 96) m 100;
}

abbrev pub file_all_information_fault : List ℕ → Option MessageError
file_all_information_fault m =
    short_fault m 0 (widths (file_all_information_table (file_all_information_in m)))
    or_else part_fault m 100 (number 4 m 96) 100 Name

-- what is written: the name stands behind the fixed part
abbrev pub file_all_information_whole : FileAllInformationValue → List Field
file_all_information_whole v = file_all_information_table v ++ Raw (length v.name) v.name ∷ []

abbrev pub IsWritableFileAllInformation : FileAllInformationValue → Type 0
IsWritableFileAllInformation v = AreWritable (file_all_information_whole v)

abbrev pub file_all_information_spelling : FileAllInformationValue → List ℕ
file_all_information_spelling v = with_fields [] (file_all_information_whole v)

-- FileAllocationInformation, class 19, set (MS-FSCC 2.4.4): AllocationSize.
abbrev pub file_allocation_information_table : FileAllocationInformation → List Field
file_allocation_information_table v = Num 8 v.allocation_size ∷ []

-- m is this information; other bytes may follow
abbrev pub SpellsFileAllocationInformation : List ℕ → FileAllocationInformation → Type 0
SpellsFileAllocationInformation m v = Stands m 0 (file_allocation_information_table v)

-- the information that stands in m
abbrev pub file_allocation_information_in : List ℕ → FileAllocationInformation
file_allocation_information_in m = record { allocation_size = number 8 m 0 }

abbrev pub file_allocation_information_fault : List ℕ → Option MessageError
file_allocation_information_fault m =
    short_fault m 0 (widths (file_allocation_information_table (file_allocation_information_in m)))

abbrev pub IsWritableFileAllocationInformation : FileAllocationInformation → Type 0
IsWritableFileAllocationInformation v = AreWritable (file_allocation_information_table v)

abbrev pub file_allocation_information_spelling : FileAllocationInformation → List ℕ
file_allocation_information_spelling v = with_fields [] (file_allocation_information_table v)

-- FileEndOfFileInformation, class 20, set (MS-FSCC 2.4.13): EndOfFile.
abbrev pub file_end_of_file_information_table : FileEndOfFileInformation → List Field
file_end_of_file_information_table v = Num 8 v.end_of_file ∷ []

-- m is this information; other bytes may follow
abbrev pub SpellsFileEndOfFileInformation : List ℕ → FileEndOfFileInformation → Type 0
SpellsFileEndOfFileInformation m v = Stands m 0 (file_end_of_file_information_table v)

-- the information that stands in m
abbrev pub file_end_of_file_information_in : List ℕ → FileEndOfFileInformation
file_end_of_file_information_in m = record { end_of_file = number 8 m 0 }

abbrev pub file_end_of_file_information_fault : List ℕ → Option MessageError
file_end_of_file_information_fault m =
    short_fault m 0 (widths (file_end_of_file_information_table (file_end_of_file_information_in m)))

abbrev pub IsWritableFileEndOfFileInformation : FileEndOfFileInformation → Type 0
IsWritableFileEndOfFileInformation v = AreWritable (file_end_of_file_information_table v)

abbrev pub file_end_of_file_information_spelling : FileEndOfFileInformation → List ℕ
file_end_of_file_information_spelling v = with_fields [] (file_end_of_file_information_table v)

pub record FileStreamInformationValue : Type 0 where
  pub next_entry_offset : ℕ
  pub stream_size : ℕ
  pub stream_allocation_size : ℕ
  pub name : List ℕ

-- FileStreamInformation, class 22 (MS-FSCC 2.4.43), an entry: NextEntryOffset, length of the name, StreamSize,
-- StreamAllocationSize.
abbrev pub file_stream_information_table : FileStreamInformationValue → List Field
file_stream_information_table v =
    Num 4 v.next_entry_offset ∷ Num 4 (length v.name) ∷ Num 8 v.stream_size ∷ Num 8 v.stream_allocation_size ∷ []

-- m is this information; other bytes may follow
pub record SpellsFileStreamInformation (m : List ℕ) (v : FileStreamInformationValue) : Type 0 where
  pub fixed : Stands m 0 (file_stream_information_table v)
  pub name : IsPart m 24 (number 4 m 4) 24 v.name

-- the information that stands in m
abbrev pub file_stream_information_in : List ℕ → FileStreamInformationValue
file_stream_information_in m = record {
  next_entry_offset = number 4 m 0;
  stream_size = number 8 m 8;
  stream_allocation_size = number 8 m 16;
  name = bytes_at (number 4 m 4) m 24;
}

abbrev pub file_stream_information_fault : List ℕ → Option MessageError
file_stream_information_fault m =
    short_fault m 0 (widths (file_stream_information_table (file_stream_information_in m)))
    or_else part_fault m 24 (number 4 m 4) 24 Name

-- what is written: the name stands behind the fixed part
abbrev pub file_stream_information_whole : FileStreamInformationValue → List Field
file_stream_information_whole v = file_stream_information_table v ++ Raw (length v.name) v.name ∷ []

abbrev pub IsWritableFileStreamInformation : FileStreamInformationValue → Type 0
IsWritableFileStreamInformation v = AreWritable (file_stream_information_whole v)

abbrev pub file_stream_information_spelling : FileStreamInformationValue → List ℕ
file_stream_information_spelling v = with_fields [] (file_stream_information_whole v)

-- FileNetworkOpenInformation, class 34 (MS-FSCC 2.4.29): CreationTime, LastAccessTime, LastWriteTime, ChangeTime,
-- AllocationSize, EndOfFile, FileAttributes, Reserved.
abbrev pub file_network_open_information_table : FileNetworkOpenInformation → List Field
file_network_open_information_table v =
    Num 8 v.creation_time ∷ Num 8 v.last_access_time ∷ Num 8 v.last_write_time ∷ Num 8 v.change_time
    ∷ Num 8 v.allocation_size ∷ Num 8 v.end_of_file ∷ Num 4 v.file_attributes ∷ Any 4 ∷ []

-- m is this information; other bytes may follow
abbrev pub SpellsFileNetworkOpenInformation : List ℕ → FileNetworkOpenInformation → Type 0
SpellsFileNetworkOpenInformation m v = Stands m 0 (file_network_open_information_table v)

-- the information that stands in m
abbrev pub file_network_open_information_in : List ℕ → FileNetworkOpenInformation
file_network_open_information_in m = record {
  creation_time = number 8 m 0;
  last_access_time = number 8 m 8;
  last_write_time = number 8 m 16;
  change_time = number 8 m 24;
  allocation_size = number 8 m 32;
  end_of_file = number 8 m 40;
  file_attributes = number 4 m 48;
}

abbrev pub file_network_open_information_fault : List ℕ → Option MessageError
file_network_open_information_fault m =
    short_fault m 0 (widths (file_network_open_information_table (file_network_open_information_in m)))

abbrev pub IsWritableFileNetworkOpenInformation : FileNetworkOpenInformation → Type 0
IsWritableFileNetworkOpenInformation v = AreWritable (file_network_open_information_table v)

abbrev pub file_network_open_information_spelling : FileNetworkOpenInformation → List ℕ
file_network_open_information_spelling v = with_fields [] (file_network_open_information_table v)
