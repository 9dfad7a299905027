-- What is told of a volume is short, in each class.
use Rattle.std.proofs.Common.{ℕ, ◌^◌, ◌<◌, ◌≤◌, Bool, true, false, List, [], ◌∷◌, length, IsUtf8, arith}
use Rattle.std.specs.Prelude.{◌==◌, if◌then◌else◌}
use Rattle.std.proofs.lemmas.Str.{IsUtf8-nil}
use Rattle.spec_wire.specs.messages.Table.{Field, with_fields}
use Rattle.spec_wire.specs.messages.Utf16.{utf16}
use Rattle.spec_wire.specs.messages.VolumeClasses.{file_fs_volume_information_spelling, file_fs_volume_information_whole}
use Rattle.spec_wire.specs.messages.VolumeClasses.{file_fs_size_information_spelling, file_fs_size_information_table}
use Rattle.spec_wire.specs.messages.VolumeClasses.{file_fs_device_information_spelling, file_fs_device_information_table}
use Rattle.spec_wire.specs.messages.VolumeClasses.{file_fs_attribute_information_spelling, file_fs_attribute_information_whole}
use Rattle.spec_wire.specs.messages.VolumeClasses.{file_fs_full_size_information_spelling, file_fs_full_size_information_table}
use Rattle.spec_wire.specs.messages.VolumeClasses.{file_fs_sector_size_information_spelling, file_fs_sector_size_information_table}
use Rattle.spec_exchange.specs.Texts.{utf16_length, units_of}
use Rattle.spec_commands.specs.Infos.{volume_bytes, volume_value, sizes_of, full_sizes_of, file_system, sectors}
use Rattle.spec_commands.proofs.Lengths.{total, length_fields}
use Rattle.law_commands.proofs.commands.Limits.{ascii_then}
use Rattle.law_commands.proofs.commands.PathLength.{utf16_few}

ntfs_is : IsUtf8 (78 ∷ 84 ∷ 70 ∷ 83 ∷ [])
ntfs_is = ascii_then 78 _ (omega arith) (ascii_then 84 _ (omega arith) (ascii_then 70 _ (omega arith) (ascii_then 83 _
    (omega arith) IsUtf8-nil)))

ntfs_units : utf16_length (78 ∷ 84 ∷ 70 ∷ 83 ∷ []) ≤ 4
unfolding utf16_length units_of
ntfs_units = omega arith

pub ntfs_few : length (utf16 (78 ∷ 84 ∷ 70 ∷ 83 ∷ [])) ≤ 16
ntfs_few = omega (arith, utf16_few (78 ∷ 84 ∷ 70 ∷ 83 ∷ []) ntfs_is, ntfs_units)

few : (fs : List Field) → total fs ≤ 100 → length (with_fields [] fs) < 2 ^ 32
few fs short = omega (arith, short, length_fields fs [])

volume_by : (room used : ℕ) (a b c d e : Bool) → length (if a then file_fs_volume_information_spelling volume_value
    else if b then file_fs_size_information_spelling (sizes_of room used)
    else if c then file_fs_device_information_spelling (record { device_type = 7; characteristics = 0x20 })
    else if d then file_fs_attribute_information_spelling file_system
    else if e then file_fs_sector_size_information_spelling sectors
    else file_fs_full_size_information_spelling (full_sizes_of room used)) < 2 ^ 32
unfolding total
volume_by room used true b c d e = few (file_fs_volume_information_whole volume_value) (omega arith)
volume_by room used false true c d e = few (file_fs_size_information_table (sizes_of room used)) (omega arith)
volume_by room used false false true d e = few (file_fs_device_information_table (record {
  device_type = 7;
  characteristics = 0x20;
})) (omega arith)
volume_by room used false false false true e = few (file_fs_attribute_information_whole file_system) (omega (arith, ntfs_few))
volume_by room used false false false false true = few (file_fs_sector_size_information_table sectors) (omega arith)
volume_by room used false false false false false = few (file_fs_full_size_information_table (full_sizes_of room used)) (omega arith)

pub volume_short : (class room used : ℕ) → length (volume_bytes class room used) < 2 ^ 32
unfolding volume_bytes
volume_short class room used = volume_by room used (class == 1) (class == 3) (class == 4) (class == 5) (class == 11)
