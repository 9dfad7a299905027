use Rattle.std.proofs.Common.{◌≡◌, None, arith}
use Rattle.std.proofs.lemmas.Grind.{common_steps}
use Rattle.spec_wire.specs.messages.Places.{number}
use Rattle.spec_wire.specs.messages.Fault.{◌or_else◌, fields_fault, size_fault, part_fault}
use Rattle.spec_wire.specs.declared.messages.error.Part.TheVariants.{Payload}
use Rattle.spec_wire.specs.messages.Write.{write_request_table, write_request_in, write_request_whole}
use Rattle.law_wire.proofs.messages.Rows.{table_again}
use Rattle.law_wire.proofs.messages.Faults.{no_part_fault, part_stands, none_of}
use Rattle.law_wire.proofs.messages.write.write_request_law.Goals as goal

pub returns-clause-whole : goal.returns-clause-whole
returns-clause-whole c = λ m v p.
    let payload : part_fault m (number 2 m 66) (number 4 m 68) 112 Payload ≡ None = no_part_fault m _ _ _ _ Payload p.payload in
    grind (arith, common_steps)

pub returns-clause-given : goal.returns-clause-given
returns-clause-given c = λ m none.
    let front = fields_fault m (write_request_table (write_request_in m) (number 2 m 66)) or_else size_fault m 49 in
    let split = none_of front (part_fault m (number 2 m 66) (number 4 m 68) 112 Payload) none in
    let payload = part_stands m (number 2 m 66) (number 4 m 68) 112 Payload split.1 in
    record { fixed = grind (arith, common_steps); payload = payload }

pub returns-clause-again : goal.returns-clause-again
returns-clause-again c = λ header rest v e fit.
    let row = table_again (write_request_whole v) header rest 64 e fit in
    record {
      fixed = grind (arith, common_steps);
      payload = record { bytes = grind (arith, common_steps); whole = grind (arith, common_steps); place = grind (arith, common_steps) };
    }
