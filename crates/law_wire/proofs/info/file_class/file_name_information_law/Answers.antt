use Rattle.std.proofs.Common.{◌≡◌, [], refl, None, arith}
use Rattle.std.proofs.lemmas.Grind.{common_steps}
use Rattle.spec_wire.specs.messages.Places.{number}
use Rattle.spec_wire.specs.messages.Fault.{short_fault, part_fault}
use Rattle.spec_wire.specs.messages.Table.{widths}
use Rattle.spec_wire.specs.declared.messages.error.Part.TheVariants.{Name}
use Rattle.spec_wire.specs.messages.FileClasses.{file_name_information_table, file_name_information_in, file_name_information_whole}
use Rattle.law_wire.proofs.messages.Rows.{table_again}
use Rattle.law_wire.proofs.messages.Faults.{no_part_fault, part_stands, none_of}
use Rattle.law_wire.proofs.info.file_class.file_name_information_law.Goals as goal

pub returns-clause-whole : goal.returns-clause-whole
returns-clause-whole c = λ m v p.
    let name : part_fault m 4 (number 4 m 0) 4 Name ≡ None = no_part_fault m _ _ _ _ Name p.name in
    grind (arith, common_steps)

pub returns-clause-given : goal.returns-clause-given
returns-clause-given c = λ m none.
    let front = short_fault m 0 (widths (file_name_information_table (file_name_information_in m))) in
    let at_name = none_of front (part_fault m 4 (number 4 m 0) 4 Name) none in
    let name = part_stands m 4 (number 4 m 0) 4 Name at_name.1 in
    record { fixed = grind (arith, common_steps); name = name }

pub returns-clause-again : goal.returns-clause-again
returns-clause-again c = λ rest v fit.
    let row = table_again (file_name_information_whole v) [] rest 0 refl fit in
    record {
      fixed = grind (arith, common_steps);
      name = record { bytes = grind (arith, common_steps); whole = grind (arith, common_steps); place = grind (arith, common_steps) };
    }
