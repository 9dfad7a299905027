use Rattle.std.proofs.Common.{◌≡◌, None, arith}
use Rattle.std.proofs.lemmas.Grind.{common_steps}
use Rattle.spec_wire.specs.messages.Places.{number}
use Rattle.spec_wire.specs.messages.Fault.{◌or_else◌, fields_fault, size_fault, part_fault}
use Rattle.spec_wire.specs.declared.messages.error.Part.TheVariants.{Output}
use Rattle.spec_wire.specs.messages.QueryInfo.{query_info_response_table, query_info_response_in, query_info_response_whole}
use Rattle.law_wire.proofs.messages.Rows.{table_again}
use Rattle.law_wire.proofs.messages.Faults.{no_part_fault, part_stands, none_of}
use Rattle.law_wire.proofs.info.query_info.query_info_response_law.Goals as goal

pub returns-clause-whole : goal.returns-clause-whole
returns-clause-whole c = λ m v p.
    let output : part_fault m (number 2 m 66) (number 4 m 68) 72 Output ≡ None = no_part_fault m _ _ _ _ Output p.output in
    grind (arith, common_steps)

pub returns-clause-given : goal.returns-clause-given
returns-clause-given c = λ m none.
    let front = fields_fault m (query_info_response_table (query_info_response_in m) (number 2 m 66)) or_else size_fault m 9 in
    let at_output = none_of front (part_fault m (number 2 m 66) (number 4 m 68) 72 Output) none in
    let output = part_stands m (number 2 m 66) (number 4 m 68) 72 Output at_output.1 in
    record { fixed = grind (arith, common_steps); output = output }

pub returns-clause-again : goal.returns-clause-again
returns-clause-again c = λ header rest v e fit.
    let row = table_again (query_info_response_whole v) header rest 64 e fit in
    record {
      fixed = grind (arith, common_steps);
      output = record { bytes = grind (arith, common_steps); whole = grind (arith, common_steps); place = grind (arith, common_steps) };
    }
