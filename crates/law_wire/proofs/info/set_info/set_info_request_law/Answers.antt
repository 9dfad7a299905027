use Rattle.std.proofs.Common.{◌≡◌, true, None, arith}
use Rattle.std.proofs.lemmas.Grind.{common_steps}
use Rattle.spec_wire.specs.messages.Places.{number}
use Rattle.spec_wire.specs.messages.Fault.{◌or_else◌, fields_fault, size_fault, part_fault}
use Rattle.spec_wire.specs.messages.Classes.{class_fault, is_set_class}
use Rattle.spec_wire.specs.declared.messages.error.Part.TheVariants.{Payload}
use Rattle.spec_wire.specs.messages.SetInfo.{set_info_request_table, set_info_request_in, set_info_request_whole}
use Rattle.law_wire.proofs.messages.Rows.{table_again}
use Rattle.law_wire.proofs.messages.Faults.{no_part_fault, part_stands, none_of}
use Rattle.law_wire.proofs.messages.Told.{no_class_fault, class_stands}
use Rattle.law_wire.proofs.info.set_info.set_info_request_law.Goals as goal

pub returns-clause-whole : goal.returns-clause-whole
returns-clause-whole c = λ m v p.
    let known : is_set_class (number 1 m 66) (number 1 m 67) ≡ true = rw (p.fixed.1.0, p.fixed.1.1.0) p.known in
    let class : class_fault (is_set_class (number 1 m 66) (number 1 m 67)) (number 1 m 67) ≡ None =
    no_class_fault (is_set_class (number 1 m 66) (number 1 m 67)) (number 1 m 67) known in
    let payload : part_fault m (number 2 m 72) (number 4 m 68) 96 Payload ≡ None = no_part_fault m _ _ _ _ Payload p.payload in
    grind (arith, common_steps)

pub returns-clause-given : goal.returns-clause-given
returns-clause-given c = λ m none.
    let front = fields_fault m (set_info_request_table (set_info_request_in m) (number 2 m 72)) or_else size_fault m 33 in
    let front_known = front or_else class_fault (is_set_class (number 1 m 66) (number 1 m 67)) (number 1 m 67) in
    let at_payload = none_of front_known (part_fault m (number 2 m 72) (number 4 m 68) 96 Payload) none in
    let at_known = none_of front (class_fault (is_set_class (number 1 m 66) (number 1 m 67)) (number 1 m 67)) at_payload.0 in
    let payload = part_stands m (number 2 m 72) (number 4 m 68) 96 Payload at_payload.1 in
    record {
      fixed = grind (arith, common_steps);
      known = class_stands (is_set_class (number 1 m 66) (number 1 m 67)) (number 1 m 67) at_known.1;
      payload = payload;
    }

pub returns-clause-again : goal.returns-clause-again
returns-clause-again c = λ header rest v e fit.
    let row = table_again (set_info_request_whole v) header rest 64 e fit.fits in
    record {
      fixed = grind (arith, common_steps);
      known = fit.known;
      payload = record { bytes = grind (arith, common_steps); whole = grind (arith, common_steps); place = grind (arith, common_steps) };
    }
