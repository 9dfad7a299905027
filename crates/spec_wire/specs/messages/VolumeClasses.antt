-- The information classes of a volume (MS-FSCC 2.5).
use Rattle.std.specs.Prelude.{ℕ, List, [], ◌∷◌, Option, ◌++◌, length}
use Rattle.spec_wire.specs.messages.Places.{number, bytes_at}
use Rattle.spec_wire.specs.messages.Table.{Field, Num, Raw, Any, Stands, with_fields, AreWritable, widths, IsPart}
use Rattle.spec_wire.specs.messages.Fault.{◌or_else◌, short_fault, part_fault}
use Rattle.spec_wire.specs.declared.messages.error.MessageError.{MessageError}
use Rattle.spec_wire.specs.declared.messages.error.Part.TheVariants.{Name}
use Rattle.spec_wire.specs.declared.messages.class.FileFsSizeInformation.{FileFsSizeInformation}
use Rattle.spec_wire.specs.declared.messages.class.FileFsDeviceInformation.{FileFsDeviceInformation}
use Rattle.spec_wire.specs.declared.messages.class.FileFsFullSizeInformation.{FileFsFullSizeInformation}
use Rattle.spec_wire.specs.declared.messages.class.FileFsSectorSizeInformation.{FileFsSectorSizeInformation}

pub record FileFsVolumeInformationValue : Type 0 where
  pub volume_creation_time : ℕ
  pub volume_serial_number : ℕ
  pub supports_objects : ℕ
  pub label : List ℕ

-- FileFsVolumeInformation, class 1 (MS-FSCC 2.5.9): VolumeCreationTime, VolumeSerialNumber, length of the label,
-- SupportsObjects, Reserved.
abbrev pub file_fs_volume_information_table : FileFsVolumeInformationValue → List Field
file_fs_volume_information_table v =
    Num 8 v.volume_creation_time ∷ Num 4 v.volume_serial_number ∷ Num 4 (length v.label) ∷ Num 1 v.supports_objects
    ∷ Any 1 ∷ []

-- m is this information; other bytes may follow
pub record SpellsFileFsVolumeInformation (m : List ℕ) (v : FileFsVolumeInformationValue) : Type 0 where
  pub fixed : Stands m 0 (file_fs_volume_information_table v)
  pub label : IsPart m 18 (number 4 m 12) 18 v.label

-- the information that stands in m
abbrev pub file_fs_volume_information_in : List ℕ → FileFsVolumeInformationValue
file_fs_volume_information_in m = record {
  volume_creation_time = number 8 m 0;
  volume_serial_number = number 4 m 8;
  supports_objects = number 1 m 16;
  label = bytes_at (number 4 m 12) m 18;
}

abbrev pub file_fs_volume_information_fault : List ℕ → Option MessageError
file_fs_volume_information_fault m =
    short_fault m 0 (widths (file_fs_volume_information_table (file_fs_volume_information_in m)))
    or_else part_fault m 18 (number 4 m 12) 18 Name

-- what is written: the label stands behind the fixed part
abbrev pub file_fs_volume_information_whole : FileFsVolumeInformationValue → List Field
file_fs_volume_information_whole v = file_fs_volume_information_table v ++ Raw (length v.label) v.label ∷ []

abbrev pub IsWritableFileFsVolumeInformation : FileFsVolumeInformationValue → Type 0
IsWritableFileFsVolumeInformation v = AreWritable (file_fs_volume_information_whole v)

abbrev pub file_fs_volume_information_spelling : FileFsVolumeInformationValue → List ℕ
file_fs_volume_information_spelling v = with_fields [] (file_fs_volume_information_whole v)

-- FileFsSizeInformation, class 3 (MS-FSCC 2.5.8): TotalAllocationUnits, AvailableAllocationUnits,
-- SectorsPerAllocationUnit, BytesPerSector.
abbrev pub file_fs_size_information_table : FileFsSizeInformation → List Field
file_fs_size_information_table v =
    Num 8 v.total_allocation_units ∷ Num 8 v.available_allocation_units ∷ Num 4 v.sectors_per_allocation_unit
    ∷ Num 4 v.bytes_per_sector ∷ []

-- m is this information; other bytes may follow
abbrev pub SpellsFileFsSizeInformation : List ℕ → FileFsSizeInformation → Type 0
SpellsFileFsSizeInformation m v = Stands m 0 (file_fs_size_information_table v)

-- the information that stands in m
abbrev pub file_fs_size_information_in : List ℕ → FileFsSizeInformation
file_fs_size_information_in m = record {
  total_allocation_units = number 8 m 0;
  available_allocation_units = number 8 m 8;
  sectors_per_allocation_unit = number 4 m 16;
  bytes_per_sector = number 4 m 20;
}

abbrev pub file_fs_size_information_fault : List ℕ → Option MessageError
file_fs_size_information_fault m =
    short_fault m 0 (widths (file_fs_size_information_table (file_fs_size_information_in m)))

abbrev pub IsWritableFileFsSizeInformation : FileFsSizeInformation → Type 0
IsWritableFileFsSizeInformation v = AreWritable (file_fs_size_information_table v)

abbrev pub file_fs_size_information_spelling : FileFsSizeInformation → List ℕ
file_fs_size_information_spelling v = with_fields [] (file_fs_size_information_table v)

-- FileFsDeviceInformation, class 4 (MS-FSCC 2.5.10): DeviceType, Characteristics.
abbrev pub file_fs_device_information_table : FileFsDeviceInformation → List Field
file_fs_device_information_table v = Num 4 v.device_type ∷ Num 4 v.characteristics ∷ []

-- m is this information; other bytes may follow
abbrev pub SpellsFileFsDeviceInformation : List ℕ → FileFsDeviceInformation → Type 0
SpellsFileFsDeviceInformation m v = Stands m 0 (file_fs_device_information_table v)

-- the information that stands in m
abbrev pub file_fs_device_information_in : List ℕ → FileFsDeviceInformation
file_fs_device_information_in m = record { device_type = number 4 m 0; characteristics = number 4 m 4 }

abbrev pub file_fs_device_information_fault : List ℕ → Option MessageError
file_fs_device_information_fault m =
    short_fault m 0 (widths (file_fs_device_information_table (file_fs_device_information_in m)))

abbrev pub IsWritableFileFsDeviceInformation : FileFsDeviceInformation → Type 0
IsWritableFileFsDeviceInformation v = AreWritable (file_fs_device_information_table v)

abbrev pub file_fs_device_information_spelling : FileFsDeviceInformation → List ℕ
file_fs_device_information_spelling v = with_fields [] (file_fs_device_information_table v)

pub record FileFsAttributeInformationValue : Type 0 where
  pub file_system_attributes : ℕ
  pub maximum_component_name_length : ℕ
  pub name : List ℕ

-- FileFsAttributeInformation, class 5 (MS-FSCC 2.5.1): FileSystemAttributes, MaximumComponentNameLength, length of
-- the name.
abbrev pub file_fs_attribute_information_table : FileFsAttributeInformationValue → List Field
file_fs_attribute_information_table v =
    Num 4 v.file_system_attributes ∷ Num 4 v.maximum_component_name_length ∷ Num 4 (length v.name) ∷ []

-- m is this information; other bytes may follow
pub record SpellsFileFsAttributeInformation (m : List ℕ) (v : FileFsAttributeInformationValue) : Type 0 where
  pub fixed : Stands m 0 (file_fs_attribute_information_table v)
  pub name : IsPart m 12 (number 4 m 8) 12 v.name

-- the information that stands in m
abbrev pub file_fs_attribute_information_in : List ℕ → FileFsAttributeInformationValue
file_fs_attribute_information_in m = record {
  file_system_attributes = number 4 m 0;
  maximum_component_name_length = number 4 m 4;
  name = bytes_at (number 4 m 8) m 12;
}

abbrev pub file_fs_attribute_information_fault : List ℕ → Option MessageError
file_fs_attribute_information_fault m =
    short_fault m 0 (widths (file_fs_attribute_information_table (file_fs_attribute_information_in m)))
    or_else part_fault m 12 (number 4 m 8) 12 Name

-- what is written: the name stands behind the fixed part
abbrev pub file_fs_attribute_information_whole : FileFsAttributeInformationValue → List Field
file_fs_attribute_information_whole v = file_fs_attribute_information_table v ++ Raw (length v.name) v.name ∷ []

abbrev pub IsWritableFileFsAttributeInformation : FileFsAttributeInformationValue → Type 0
IsWritableFileFsAttributeInformation v = AreWritable (file_fs_attribute_information_whole v)

abbrev pub file_fs_attribute_information_spelling : FileFsAttributeInformationValue → List ℕ
file_fs_attribute_information_spelling v = with_fields [] (file_fs_attribute_information_whole v)

-- FileFsFullSizeInformation, class 7 (MS-FSCC 2.5.4): TotalAllocationUnits, CallerAvailableAllocationUnits,
-- ActualAvailableAllocationUnits, SectorsPerAllocationUnit, BytesPerSector.
abbrev pub file_fs_full_size_information_table : FileFsFullSizeInformation → List Field
file_fs_full_size_information_table v =
    Num 8 v.total_allocation_units ∷ Num 8 v.caller_available_allocation_units
    ∷ Num 8 v.actual_available_allocation_units ∷ Num 4 v.sectors_per_allocation_unit ∷ Num 4 v.bytes_per_sector ∷ []

-- m is this information; other bytes may follow
abbrev pub SpellsFileFsFullSizeInformation : List ℕ → FileFsFullSizeInformation → Type 0
SpellsFileFsFullSizeInformation m v = Stands m 0 (file_fs_full_size_information_table v)

-- the information that stands in m
abbrev pub file_fs_full_size_information_in : List ℕ → FileFsFullSizeInformation
file_fs_full_size_information_in m = record {
  total_allocation_units = number 8 m 0;
  caller_available_allocation_units = number 8 m 8;
  actual_available_allocation_units = number 8 m 16;
  sectors_per_allocation_unit = number 4 m 24;
  bytes_per_sector = number 4 m 28;
}

abbrev pub file_fs_full_size_information_fault : List ℕ → Option MessageError
file_fs_full_size_information_fault m =
    short_fault m 0 (widths (file_fs_full_size_information_table (file_fs_full_size_information_in m)))

abbrev pub IsWritableFileFsFullSizeInformation : FileFsFullSizeInformation → Type 0
IsWritableFileFsFullSizeInformation v = AreWritable (file_fs_full_size_information_table v)

abbrev pub file_fs_full_size_information_spelling : FileFsFullSizeInformation → List ℕ
file_fs_full_size_information_spelling v = with_fields [] (file_fs_full_size_information_table v)

-- FileFsSectorSizeInformation, class 11 (MS-FSCC 2.5.7): LogicalBytesPerSector,
-- PhysicalBytesPerSectorForAtomicity, PhysicalBytesPerSectorForPerformance,
-- FileSystemEffectivePhysicalBytesPerSectorForAtomicity, Flags, ByteOffsetForSectorAlignment,
-- ByteOffsetForPartitionAlignment.
abbrev pub file_fs_sector_size_information_table : FileFsSectorSizeInformation → List Field
file_fs_sector_size_information_table v =
    Num 4 v.logical_bytes_per_sector ∷ Num 4 v.physical_bytes_per_sector_for_atomicity
    ∷ Num 4 v.physical_bytes_per_sector_for_performance
    ∷ Num 4 v.file_system_effective_physical_bytes_per_sector_for_atomicity ∷ Num 4 v.flags
    ∷ Num 4 v.byte_offset_for_sector_alignment ∷ Num 4 v.byte_offset_for_partition_alignment ∷ []

-- m is this information; other bytes may follow
abbrev pub SpellsFileFsSectorSizeInformation : List ℕ → FileFsSectorSizeInformation → Type 0
SpellsFileFsSectorSizeInformation m v = Stands m 0 (file_fs_sector_size_information_table v)

-- the information that stands in m
abbrev pub file_fs_sector_size_information_in : List ℕ → FileFsSectorSizeInformation
file_fs_sector_size_information_in m = record {
  logical_bytes_per_sector = number 4 m 0;
  physical_bytes_per_sector_for_atomicity = number 4 m 4;
  physical_bytes_per_sector_for_performance = number 4 m 8;
  file_system_effective_physical_bytes_per_sector_for_atomicity = number 4 m 12;
  flags = number 4 m 16;
  byte_offset_for_sector_alignment = number 4 m 20;
  byte_offset_for_partition_alignment = number 4 m 24;
}

abbrev pub file_fs_sector_size_information_fault : List ℕ → Option MessageError
file_fs_sector_size_information_fault m =
    short_fault m 0 (widths (file_fs_sector_size_information_table (file_fs_sector_size_information_in m)))

abbrev pub IsWritableFileFsSectorSizeInformation : FileFsSectorSizeInformation → Type 0
IsWritableFileFsSectorSizeInformation v = AreWritable (file_fs_sector_size_information_table v)

abbrev pub file_fs_sector_size_information_spelling : FileFsSectorSizeInformation → List ℕ
file_fs_sector_size_information_spelling v = with_fields [] (file_fs_sector_size_information_table v)
