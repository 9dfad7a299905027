use Rattle.std.proofs.Common.{◌≡◌, ℕ, ◌^◌, ◌<◌, Bool, true, false, List, ◌++◌, length, None, refl, ap, ◌∙◌, arith}
use Rattle.std.specs.Prelude.{◌==◌, not}
use Rattle.spec_wire.specs.messages.Places.{number}
use Rattle.spec_wire.specs.messages.Classes.{is_set_class}
use Rattle.spec_wire.specs.messages.SetInfo.{IsWritableSetInfoRequest, SetInfoRequestValue, SpellsSetInfoRequest}
use Rattle.spec_wire.specs.messages.SetInfo.{set_info_request_fault, set_info_request_in}
use Rattle.spec_wire.specs.messages.FileClasses
use Rattle.spec_wire.specs.declared.messages.class.FileBasicInformation.{FileBasicInformation}
use Rattle.spec_wire.specs.declared.messages.class.FileDispositionInformation.{FileDispositionInformation}
use Rattle.spec_wire.specs.declared.messages.class.FileAllocationInformation.{FileAllocationInformation}
use Rattle.spec_wire.specs.declared.messages.class.FileEndOfFileInformation.{FileEndOfFileInformation}
use Rattle.spec_wire.specs.declared.messages.class.FilePositionInformation.{FilePositionInformation}
use Rattle.spec_wire.specs.declared.messages.class.FileModeInformation.{FileModeInformation}
use Rattle.spec_exchange.specs.Commands.{SetInfo, Setting, SetBasic, Rename, SetDelete, SetAllocation, SetEnd, SetPosition, SetMode}
use Rattle.spec_exchange.specs.Commands.{Basic}
use Rattle.spec_commands.specs.Text.{text_in}
use Rattle.spec_commands.specs.Tables.{bit_if}
use Rattle.spec_commands.specs.BodyOf.{body_of, set_value, setting_bytes, class_of, basic_value}
use Rattle.spec_commands.specs.CommandOf.{set_in, set_of, setting_of, rename_of, basic_of}
use Rattle.law_commands.specs.commands.Fitting.{IsSetting, IsBasic}
use Rattle.law_commands.proofs.commands.Fields.{file_again, length-file_id}
use Rattle.law_commands.proofs.commands.ReadBack.{found, read_as}
use Rattle.law_commands.proofs.commands.Paid.{told_most, paid_is}
use Rattle.law_commands.proofs.commands.Texts.{text_again}
use Rattle.law_commands.proofs.commands.Settings.{alone}
use Rattle.law_commands.proofs.commands.SettingBytes.{bit_small, rename_value, basic_fits, rename_fits, bytes_few}
use Rattle.law_commands.proofs.commands.setting.set_again.Goals as goal

class_small : (s : Setting) → class_of s < 256 ^ 1
class_small (SetBasic basic) = omega arith
class_small (Rename replace path) = omega arith
class_small (SetDelete delete_pending) = omega arith
class_small (SetAllocation size) = omega arith
class_small (SetEnd size) = omega arith
class_small (SetPosition position) = omega arith
class_small SetMode = omega arith

class_known : (s : Setting) → is_set_class 1 (class_of s) ≡ true
unfolding is_set_class
class_known (SetBasic basic) = refl
class_known (Rename replace path) = refl
class_known (SetDelete delete_pending) = refl
class_known (SetAllocation size) = refl
class_known (SetEnd size) = refl
class_known (SetPosition position) = refl
class_known SetMode = refl

flag_again : (b : Bool) → not (bit_if b 1 == 0) ≡ b
unfolding bit_if
flag_again true = refl
flag_again false = refl

pub returns : goal.returns
unfolding set_in body_of
returns c = λ paid header rest file setting len small is pays.
    let law = c.set_info_request_law.ensures in
    let v : SetInfoRequestValue = set_value file setting in
    let m : List ℕ = header ++ (body_of (SetInfo file setting) ++ rest) in
    let fit : IsWritableSetInfoRequest v = record {
      fits = (
        omega arith,
        (
          omega arith,
          (
            class_small setting,
            (
              bytes_few setting is,
              (
                omega arith,
                (
                  omega arith,
                  (length-file_id file, (refl, tt)),
                ),
              ),
            ),
          ),
        ),
      );
      known = class_known setting;
    } in
    let spells : SpellsSetInfoRequest m v = law.again header rest v len fit in
    let row = found SpellsSetInfoRequest set_info_request_fault set_info_request_in law.one law.whole law.given m v spells in
    let told : number 4 m 68 ≡ length (setting_bytes setting) = spells.fixed.1.1.1.0 in
    paid_is 17 paid (length (setting_bytes setting)) m (set_in m) (SetInfo file setting)
    (told_most m 68 (length (setting_bytes setting)) told) pays
    (read_as SpellsSetInfoRequest set_info_request_fault set_info_request_in set_of m v row
    ∙ ap (λ (o : ℕ). setting_of o (class_of setting) (setting_bytes setting)) (file_again file small)
    ∙ by_class setting file is)
  where
    basic_is : (b : Basic) → IsBasic b → (FileClasses.file_basic_information_fault
        (FileClasses.file_basic_information_spelling (basic_value b)) ≡ None) × (FileClasses.file_basic_information_in
        (FileClasses.file_basic_information_spelling (basic_value b)) ≡ basic_value b)
    basic_is b is =
        let law = c.file_basic_information_law.ensures in
        alone FileClasses.SpellsFileBasicInformation FileClasses.file_basic_information_fault
        FileClasses.file_basic_information_in FileClasses.IsWritableFileBasicInformation
        FileClasses.file_basic_information_spelling law.one law.whole law.given law.again (basic_value b)
        (basic_fits b is)

    by_class : (s : Setting) (file : ℕ) → IsSetting s → setting_of file (class_of s) (setting_bytes s) ≡ SetInfo file s
    by_class (SetBasic b) file is =
        read_as FileClasses.SpellsFileBasicInformation FileClasses.file_basic_information_fault
        FileClasses.file_basic_information_in (λ (v : FileBasicInformation). SetInfo file (SetBasic (basic_of v)))
        (setting_bytes (SetBasic b)) (basic_value b) (basic_is b is)
    by_class (Rename replace path) file is =
        let law = c.file_rename_information_law.ensures in
        let row = alone FileClasses.SpellsFileRenameInformation FileClasses.file_rename_information_fault
        FileClasses.file_rename_information_in FileClasses.IsWritableFileRenameInformation
        FileClasses.file_rename_information_spelling law.one law.whole law.given law.again (rename_value replace
        path) (rename_fits replace path is) in
        read_as FileClasses.SpellsFileRenameInformation FileClasses.file_rename_information_fault
        FileClasses.file_rename_information_in (λ (v : FileClasses.FileRenameInformationValue). rename_of file v
        (text_in v.name)) (setting_bytes (Rename replace path)) (rename_value replace path) row
        ∙ ap (rename_of file (rename_value replace path)) (text_again path is.utf8)
        ∙ ap (λ (b : Bool). SetInfo file (Rename b path)) (flag_again replace)
    by_class (SetDelete delete_pending) file is =
        let law = c.file_disposition_information_law.ensures in
        let v : FileDispositionInformation = record { delete_pending = bit_if delete_pending 1 } in
        let row = alone FileClasses.SpellsFileDispositionInformation FileClasses.file_disposition_information_fault
        FileClasses.file_disposition_information_in FileClasses.IsWritableFileDispositionInformation
        FileClasses.file_disposition_information_spelling law.one law.whole law.given law.again v (
          bit_small delete_pending,
          tt,
        ) in
        read_as FileClasses.SpellsFileDispositionInformation FileClasses.file_disposition_information_fault
        FileClasses.file_disposition_information_in (λ (v : FileDispositionInformation). SetInfo file (SetDelete
        (not (v.delete_pending == 0)))) (setting_bytes (SetDelete delete_pending)) v row
        ∙ ap (λ (b : Bool). SetInfo file (SetDelete b)) (flag_again delete_pending)
    by_class (SetAllocation size) file is =
        let law = c.file_allocation_information_law.ensures in
        let v : FileAllocationInformation = record { allocation_size = size } in
        let row = alone FileClasses.SpellsFileAllocationInformation FileClasses.file_allocation_information_fault
        FileClasses.file_allocation_information_in FileClasses.IsWritableFileAllocationInformation
        FileClasses.file_allocation_information_spelling law.one law.whole law.given law.again v (is, tt) in
        read_as FileClasses.SpellsFileAllocationInformation FileClasses.file_allocation_information_fault
        FileClasses.file_allocation_information_in (λ (v : FileAllocationInformation). SetInfo file (SetAllocation
        v.allocation_size)) (setting_bytes (SetAllocation size)) v row
    by_class (SetEnd size) file is =
        let law = c.file_end_of_file_information_law.ensures in
        let v : FileEndOfFileInformation = record { end_of_file = size } in
        let row = alone FileClasses.SpellsFileEndOfFileInformation FileClasses.file_end_of_file_information_fault
        FileClasses.file_end_of_file_information_in FileClasses.IsWritableFileEndOfFileInformation
        FileClasses.file_end_of_file_information_spelling law.one law.whole law.given law.again v (is, tt) in
        read_as FileClasses.SpellsFileEndOfFileInformation FileClasses.file_end_of_file_information_fault
        FileClasses.file_end_of_file_information_in (λ (v : FileEndOfFileInformation). SetInfo file (SetEnd
        v.end_of_file)) (setting_bytes (SetEnd size)) v row
    by_class (SetPosition position) file is =
        let law = c.file_position_information_law.ensures in
        let v : FilePositionInformation = record { current_byte_offset = position } in
        let row = alone FileClasses.SpellsFilePositionInformation FileClasses.file_position_information_fault
        FileClasses.file_position_information_in FileClasses.IsWritableFilePositionInformation
        FileClasses.file_position_information_spelling law.one law.whole law.given law.again v (is, tt) in
        read_as FileClasses.SpellsFilePositionInformation FileClasses.file_position_information_fault
        FileClasses.file_position_information_in (λ (v : FilePositionInformation). SetInfo file (SetPosition
        v.current_byte_offset)) (setting_bytes (SetPosition position)) v row
    by_class SetMode file is =
        let law = c.file_mode_information_law.ensures in
        let v : FileModeInformation = record { mode = 0 } in
        let row = alone FileClasses.SpellsFileModeInformation FileClasses.file_mode_information_fault
        FileClasses.file_mode_information_in FileClasses.IsWritableFileModeInformation
        FileClasses.file_mode_information_spelling law.one law.whole law.given law.again v (omega arith, tt) in
        read_as FileClasses.SpellsFileModeInformation FileClasses.file_mode_information_fault
        FileClasses.file_mode_information_in (λ (v : FileModeInformation). SetInfo file SetMode) (setting_bytes SetMode) v row
