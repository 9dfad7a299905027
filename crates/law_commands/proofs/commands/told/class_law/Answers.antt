use Rattle.std.proofs.Common.{◌≡◌, ℕ, ◌^◌, ◌<◌, Bool, true, false, List, [], ◌∷◌, ◌++◌, length, None, refl, ap, ◌∙◌, sym, subst, arith, length-append}
use Rattle.std.specs.Prelude.{if◌then◌else◌}
use Rattle.std.proofs.lemmas.Nat.{and_le_r}
use Rattle.spec_wire.specs.messages.Interfaces.{SpellsNetworkInterface, network_interface_fault, network_interface_in}
use Rattle.spec_wire.specs.messages.Interfaces.{IsWritableNetworkInterface, network_interface_spelling}
use Rattle.spec_wire.specs.messages.ObjectIds.{SpellsObjectIdBuffer, object_id_buffer_fault, object_id_buffer_in}
use Rattle.spec_wire.specs.messages.ObjectIds.{IsWritableObjectIdBuffer, object_id_buffer_spelling}
use Rattle.spec_wire.specs.messages.Places.{le}
use Rattle.spec_wire.proofs.messages.Numbers.{length-le}
use Rattle.spec_wire.specs.messages.FileClasses as files
use Rattle.spec_wire.specs.messages.VolumeClasses as volumes
use Rattle.spec_commands.specs.Ids.{object_id}
use Rattle.spec_commands.specs.Tables.{bit_if}
use Rattle.spec_commands.specs.Infos.{volume_bytes, file_bytes, interface_bytes, interface_of, object_id_bytes, object_id_of, volume_value, sizes_of}
use Rattle.spec_commands.specs.Infos.{full_sizes_of, file_system, sectors, basic_of, network_open_of, all_of, mode_of}
use Rattle.spec_commands.specs.Infos.{short_bytes, streams_of, stream_of}
use Rattle.spec_wire.specs.messages.Utf16.{utf16}
use Rattle.spec_exchange.specs.Listing.{is_short_class}
use Rattle.spec_exchange.specs.State.{Info}
use Rattle.spec_commands.proofs.Lengths.{data_long}
use Rattle.law_commands.proofs.commands.Infos.{allocation_small, attributes_small}
use Rattle.law_commands.proofs.commands.Settings.{alone}
use Rattle.law_commands.proofs.commands.Volumes.{ntfs_few}
use Rattle.law_commands.proofs.commands.told.class_law.Goals as goal

bit_small : (b : Bool) → bit_if b 1 < 256 ^ 1
unfolding bit_if
bit_small true = omega arith
bit_small false = omega arith

mode_small : (options : ℕ) → mode_of options < 256 ^ 4
mode_small options = omega (arith, and_le_r options 0x103e)

pub returns-clause-volume : goal.returns-clause-volume
unfolding volume_bytes
returns-clause-volume c = λ room used.
    let law = c.file_fs_volume_information_law.ensures in
    alone volumes.SpellsFileFsVolumeInformation volumes.file_fs_volume_information_fault
    volumes.file_fs_volume_information_in volumes.IsWritableFileFsVolumeInformation
    volumes.file_fs_volume_information_spelling law.one law.whole law.given law.again
    volume_value (omega arith, (omega arith, (omega arith, (omega arith, (refl, tt)))))

pub returns-clause-size : goal.returns-clause-size
unfolding volume_bytes
returns-clause-size c = λ room used small.
    let law = c.file_fs_size_information_law.ensures in
    alone volumes.SpellsFileFsSizeInformation volumes.file_fs_size_information_fault volumes.file_fs_size_information_in
    volumes.IsWritableFileFsSizeInformation volumes.file_fs_size_information_spelling law.one law.whole law.given
    law.again
    (sizes_of room used) (omega (arith, small), (omega (arith, small), (omega arith, (omega arith, tt))))

pub returns-clause-device : goal.returns-clause-device
unfolding volume_bytes
returns-clause-device c = λ room used.
    let law = c.file_fs_device_information_law.ensures in
    alone volumes.SpellsFileFsDeviceInformation volumes.file_fs_device_information_fault
    volumes.file_fs_device_information_in volumes.IsWritableFileFsDeviceInformation
    volumes.file_fs_device_information_spelling law.one law.whole law.given law.again
    (record { device_type = 7; characteristics = 0x20 }) (omega arith, (omega arith, tt))

pub returns-clause-system : goal.returns-clause-system
unfolding volume_bytes
returns-clause-system c = λ room used.
    let law = c.file_fs_attribute_information_law.ensures in
    alone volumes.SpellsFileFsAttributeInformation volumes.file_fs_attribute_information_fault
    volumes.file_fs_attribute_information_in volumes.IsWritableFileFsAttributeInformation
    volumes.file_fs_attribute_information_spelling law.one law.whole law.given law.again
    file_system (omega arith, (omega arith, (omega (arith, ntfs_few), (refl, tt))))

pub returns-clause-full_size : goal.returns-clause-full_size
unfolding volume_bytes
returns-clause-full_size c = λ room used small.
    let law = c.file_fs_full_size_information_law.ensures in
    alone volumes.SpellsFileFsFullSizeInformation volumes.file_fs_full_size_information_fault
    volumes.file_fs_full_size_information_in volumes.IsWritableFileFsFullSizeInformation
    volumes.file_fs_full_size_information_spelling law.one law.whole law.given law.again
    (full_sizes_of room used) (omega (arith, small), (omega (arith, small), (omega (arith, small), (omega arith, (omega arith, tt)))))

pub returns-clause-basic : goal.returns-clause-basic
unfolding file_bytes
returns-clause-basic c = λ path i access options position is.
    let law = c.file_basic_information_law.ensures in
    alone files.SpellsFileBasicInformation files.file_basic_information_fault files.file_basic_information_in
    files.IsWritableFileBasicInformation files.file_basic_information_spelling law.one law.whole law.given law.again
    (basic_of i) (
      is.times.created,
      (is.times.accessed, (is.times.written, (is.times.changed, (attributes_small i is.times.attributes, tt)))),
    )

pub returns-clause-internal : goal.returns-clause-internal
unfolding file_bytes
returns-clause-internal c = λ path i access options position is.
    let law = c.file_internal_information_law.ensures in
    alone files.SpellsFileInternalInformation files.file_internal_information_fault files.file_internal_information_in
    files.IsWritableFileInternalInformation files.file_internal_information_spelling law.one law.whole law.given
    law.again
    (record { index_number = i.file }) (is.file, tt)

pub returns-clause-network_open : goal.returns-clause-network_open
unfolding file_bytes
returns-clause-network_open c = λ path i access options position is.
    let law = c.file_network_open_information_law.ensures in
    alone files.SpellsFileNetworkOpenInformation files.file_network_open_information_fault
    files.file_network_open_information_in files.IsWritableFileNetworkOpenInformation
    files.file_network_open_information_spelling law.one law.whole law.given law.again
    (network_open_of i) (
      is.times.created,
      (
        is.times.accessed,
        (
          is.times.written,
          (
            is.times.changed,
            (
              allocation_small i.size is.size,
              (omega (arith, is.size), (attributes_small i is.times.attributes, tt)),
            ),
          ),
        ),
      ),
    )

pub returns-clause-all : goal.returns-clause-all
unfolding file_bytes is_short_class
returns-clause-all c = λ path i access options position is short may at.
    let law = c.file_all_information_law.ensures in
    alone files.SpellsFileAllInformation files.file_all_information_fault files.file_all_information_in
    files.IsWritableFileAllInformation files.file_all_information_spelling law.one law.whole law.given law.again
    (all_of path i access options position) (
      is.times.created,
      (
        is.times.accessed,
        (
          is.times.written,
          (
            is.times.changed,
            (
              attributes_small i is.times.attributes,
              (
                allocation_small i.size is.size,
                (
                  omega (arith, is.size),
                  (
                    omega arith,
                    (
                      bit_small i.is_delete_pending,
                      (bit_small i.is_directory, (is.file, (may, (at, (mode_small options, (short, (refl, tt))))))),
                    ),
                  ),
                ),
              ),
            ),
          ),
        ),
      ),
    )

pub returns-clause-interface : goal.returns-clause-interface
unfolding interface_bytes
returns-clause-interface c = λ address small.
    let law = c.network_interface_law.ensures in
    alone SpellsNetworkInterface network_interface_fault network_interface_in IsWritableNetworkInterface
    network_interface_spelling law.one law.whole law.given law.again (interface_of address)
    (omega arith, (omega arith, (omega arith, (omega arith, (omega arith, (refl, (refl, tt)))))))

pub returns-clause-object_id : goal.returns-clause-object_id
unfolding object_id_bytes object_id
returns-clause-object_id c = λ file.
    let law = c.object_id_buffer_law.ensures in
    let long : length (le 8 file ++ le 8 1) ≡ 16 = length-append (le 8 file) (le 8 1) ∙ omega (arith, length-le 8 file, length-le 8 1) in
    alone SpellsObjectIdBuffer object_id_buffer_fault object_id_buffer_in IsWritableObjectIdBuffer
    object_id_buffer_spelling law.one law.whole law.given law.again (object_id_of file)
    (long, (length-le 16 0, (long, tt)))

pub returns-clause-sectors : goal.returns-clause-sectors
unfolding volume_bytes
returns-clause-sectors c = λ room used.
    let law = c.file_fs_sector_size_information_law.ensures in
    alone volumes.SpellsFileFsSectorSizeInformation volumes.file_fs_sector_size_information_fault volumes.file_fs_sector_size_information_in
    volumes.IsWritableFileFsSectorSizeInformation volumes.file_fs_sector_size_information_spelling law.one law.whole law.given law.again
    sectors (
      omega arith,
      (omega arith, (omega arith, (omega arith, (omega arith, (omega arith, (omega arith, tt)))))),
    )

pub returns-clause-attributes : goal.returns-clause-attributes
unfolding file_bytes is_short_class short_bytes
returns-clause-attributes c = λ path i access options position.
    let law = c.file_ea_information_law.ensures in
    alone files.SpellsFileEaInformation files.file_ea_information_fault files.file_ea_information_in
    files.IsWritableFileEaInformation files.file_ea_information_spelling law.one law.whole law.given law.again
    (record { ea_size = 0 }) (omega arith, tt)

pub returns-clause-access : goal.returns-clause-access
unfolding file_bytes is_short_class short_bytes
returns-clause-access c = λ path i access options position may.
    let law = c.file_access_information_law.ensures in
    alone files.SpellsFileAccessInformation files.file_access_information_fault files.file_access_information_in
    files.IsWritableFileAccessInformation files.file_access_information_spelling law.one law.whole law.given law.again
    (record { access_flags = access }) (may, tt)

pub returns-clause-mode : goal.returns-clause-mode
unfolding file_bytes is_short_class short_bytes
returns-clause-mode c = λ path i access options position.
    let law = c.file_mode_information_law.ensures in
    alone files.SpellsFileModeInformation files.file_mode_information_fault files.file_mode_information_in
    files.IsWritableFileModeInformation files.file_mode_information_spelling law.one law.whole law.given law.again
    (record { mode = 0 }) (omega arith, tt)

pub returns-clause-alignment : goal.returns-clause-alignment
unfolding file_bytes is_short_class short_bytes
returns-clause-alignment c = λ path i access options position.
    let law = c.file_alignment_information_law.ensures in
    alone files.SpellsFileAlignmentInformation files.file_alignment_information_fault files.file_alignment_information_in
    files.IsWritableFileAlignmentInformation files.file_alignment_information_spelling law.one law.whole law.given law.again
    (record { alignment_requirement = 0 }) (omega arith, tt)

pub returns-clause-position : goal.returns-clause-position
unfolding file_bytes is_short_class
returns-clause-position c = λ path i access options position at.
    let law = c.file_position_information_law.ensures in
    alone files.SpellsFilePositionInformation files.file_position_information_fault files.file_position_information_in
    files.IsWritableFilePositionInformation files.file_position_information_spelling law.one law.whole law.given law.again
    (record { current_byte_offset = position }) (at, tt)

pub returns-clause-name : goal.returns-clause-name
unfolding file_bytes is_short_class
returns-clause-name c = λ path i access options position short.
    let law = c.file_name_information_law.ensures in
    alone files.SpellsFileNameInformation files.file_name_information_fault files.file_name_information_in
    files.IsWritableFileNameInformation files.file_name_information_spelling law.one law.whole law.given law.again
    (record { name = utf16 (92 ∷ path) }) (short, (refl, tt))

-- a file's one stream, and none of a directory
streams_are : (i : Info) → i.is_directory ≡ false → streams_of i ≡ files.file_stream_information_spelling (stream_of i)
streams_are i e = ap (λ (b : Bool). if b then [] else files.file_stream_information_spelling (stream_of i)) e

pub returns-clause-stream : goal.returns-clause-stream
unfolding file_bytes is_short_class
returns-clause-stream c = λ path i access options position is e.
    let law = c.file_stream_information_law.ensures in
    subst (λ (m : List ℕ). (files.file_stream_information_fault m ≡ None) × (files.file_stream_information_in m ≡ stream_of i))
    (sym (streams_are i e))
    (alone files.SpellsFileStreamInformation files.file_stream_information_fault files.file_stream_information_in
    files.IsWritableFileStreamInformation files.file_stream_information_spelling law.one law.whole law.given law.again
    (stream_of i) (
      omega arith,
      (omega (arith, data_long), (omega (arith, is.size), (allocation_small i.size is.size, (refl, tt)))),
    ))

pub returns-clause-no_stream : goal.returns-clause-no_stream
unfolding file_bytes is_short_class
returns-clause-no_stream c = λ path i access options position e.
    ap (λ (b : Bool). if b then [] else files.file_stream_information_spelling (stream_of i)) e
