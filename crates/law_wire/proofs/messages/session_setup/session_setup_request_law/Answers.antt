use Rattle.std.proofs.Common.{◌≡◌, None, arith}
use Rattle.std.proofs.lemmas.Grind.{common_steps}
use Rattle.spec_wire.specs.messages.Places.{number}
use Rattle.spec_wire.specs.messages.Fault.{◌or_else◌, fields_fault, size_fault, part_fault}
use Rattle.spec_wire.specs.declared.messages.error.Part.TheVariants.{Security}
use Rattle.spec_wire.specs.messages.SessionSetup.{session_setup_request_table, session_setup_request_in, session_setup_request_whole}
use Rattle.law_wire.proofs.messages.Rows.{table_again}
use Rattle.law_wire.proofs.messages.Faults.{no_part_fault, part_stands, none_of}
use Rattle.law_wire.proofs.messages.session_setup.session_setup_request_law.Goals as goal

pub returns-clause-whole : goal.returns-clause-whole
returns-clause-whole c = λ m v p.
    let security : part_fault m (number 2 m 76) (number 2 m 78) 88 Security ≡ None = no_part_fault m _ _ _ _ Security p.security in
    grind (arith, common_steps)

pub returns-clause-given : goal.returns-clause-given
returns-clause-given c = λ m none.
    let front = fields_fault m (session_setup_request_table (session_setup_request_in m) (number 2 m 76)) or_else size_fault m 25 in
    let split = none_of front (part_fault m (number 2 m 76) (number 2 m 78) 88 Security) none in
    let security = part_stands m (number 2 m 76) (number 2 m 78) 88 Security split.1 in
    record { fixed = grind (arith, common_steps); security = security }

pub returns-clause-again : goal.returns-clause-again
returns-clause-again c = λ header rest v e fit.
    let row = table_again (session_setup_request_whole v) header rest 64 e fit in
    record {
      fixed = grind (arith, common_steps);
      security = record { bytes = grind (arith, common_steps); whole = grind (arith, common_steps); place = grind (arith, common_steps) };
    }
