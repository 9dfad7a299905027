-- How many bytes SET_INFO carries for what this client sets.
use Rattle.std.proofs.Common.{ℕ, ◌+◌, ◌^◌, ◌<◌, ◌≤◌, Bool, true, false, List, [], length, refl, arith}
use Rattle.spec_wire.specs.messages.Utf16.{utf16}
use Rattle.spec_wire.specs.messages.FileClasses
use Rattle.law_wire.proofs.messages.Rows.{length-with_fields, size_of}
use Rattle.spec_exchange.specs.Commands.{Setting, SetBasic, Rename, SetDelete, SetAllocation, SetEnd, SetPosition, SetMode}
use Rattle.spec_exchange.specs.Commands.{Basic}
use Rattle.spec_commands.specs.Tables.{bit_if}
use Rattle.spec_commands.specs.BodyOf.{setting_bytes, basic_value}
use Rattle.law_commands.specs.commands.Fitting.{IsSetting, IsFittingName, IsBasic}

pub bit_small : (b : Bool) → bit_if b 1 < 256 ^ 1
unfolding bit_if
bit_small true = omega arith
bit_small false = omega arith

abbrev pub rename_value : Bool → List ℕ → FileClasses.FileRenameInformationValue
rename_value replace path = record { replace_if_exists = bit_if replace 1; root_directory = 0; name = utf16 path }

pub basic_fits : (b : Basic) → IsBasic b → FileClasses.IsWritableFileBasicInformation (basic_value b)
basic_fits b is = (is.created, (is.accessed, (is.written, (is.changed, (is.attributes, tt)))))

pub rename_fits : (replace : Bool) (path : List ℕ) → IsFittingName path → FileClasses.IsWritableFileRenameInformation
    (rename_value replace path)
rename_fits replace path is = (bit_small replace, (omega arith, (omega (arith, is.short), (refl, tt))))

abbrev pub name_bytes : Setting → ℕ
name_bytes (Rename replace path) = length (utf16 path)
name_bytes _ = 0

pub bytes_most : (s : Setting) → IsSetting s → length (setting_bytes s) ≤ 40 + name_bytes s
unfolding size_of
bytes_most (SetBasic basic) is = omega (
  arith,
  length-with_fields (FileClasses.file_basic_information_table (basic_value
      basic)) [] (basic_fits basic is),
)
bytes_most (Rename replace path) is = omega (
  arith,
  length-with_fields
      (FileClasses.file_rename_information_whole (rename_value replace path)) [] (rename_fits replace path is),
)
bytes_most (SetDelete delete_pending) is = omega (
  arith,
  length-with_fields (FileClasses.file_disposition_information_table
      (record { delete_pending = bit_if delete_pending 1 })) [] (bit_small delete_pending, tt),
)
bytes_most (SetAllocation size) is = omega (
  arith,
  length-with_fields (FileClasses.file_allocation_information_table
      (record { allocation_size = size })) [] (is, tt),
)
bytes_most (SetEnd size) is = omega (
  arith,
  length-with_fields (FileClasses.file_end_of_file_information_table (record {
    end_of_file = size;
  })) [] (is, tt),
)
bytes_most (SetPosition position) is = omega (
  arith,
  length-with_fields (FileClasses.file_position_information_table (record {
    current_byte_offset = position;
  })) [] (is, tt),
)
bytes_most SetMode is = omega (arith, length-with_fields (FileClasses.file_mode_information_table (record { mode = 0 })) [] (omega arith, tt))

name_short : (s : Setting) → IsSetting s → name_bytes s < 256 ^ 2
name_short (SetBasic basic) is = omega arith
name_short (Rename replace path) is = is.short
name_short (SetDelete delete_pending) is = omega arith
name_short (SetAllocation size) is = omega arith
name_short (SetEnd size) is = omega arith
name_short (SetPosition position) is = omega arith
name_short SetMode is = omega arith

pub bytes_few : (s : Setting) → IsSetting s → length (setting_bytes s) < 256 ^ 4
bytes_few s is = omega (arith, bytes_most s is, name_short s is)
