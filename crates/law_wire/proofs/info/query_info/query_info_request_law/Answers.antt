use Rattle.std.proofs.Common.{◌≡◌, true, ℕ, ◌+◌, ◌≤◌, ◌++◌, List, length, None, arith}
use Rattle.std.proofs.lemmas.Grind.{common_steps}
use Rattle.spec_wire.specs.messages.Places.{number, bytes_at}
use Rattle.spec_wire.specs.messages.Aligned.{told}
use Rattle.spec_wire.specs.messages.Fault.{◌or_else◌, fields_fault, size_fault, part_fault}
use Rattle.spec_wire.specs.messages.Classes.{class_fault, is_query_class}
use Rattle.spec_wire.specs.declared.messages.error.Part.TheVariants.{Input}
use Rattle.spec_wire.specs.messages.QueryInfo.{query_info_request_table, query_info_request_in, query_info_request_whole}
use Rattle.spec_wire.specs.messages.QueryInfo.{query_info_request_spelling}
use Rattle.law_wire.proofs.messages.Rows.{table_again}
use Rattle.law_wire.proofs.messages.Faults.{no_part_fault, part_stands, none_of, part_told}
use Rattle.law_wire.proofs.messages.Told.{told_stands, no_class_fault, class_stands}
use Rattle.law_wire.proofs.info.query_info.query_info_request_law.Goals as goal

pub returns-clause-whole : goal.returns-clause-whole
returns-clause-whole c = λ m v p.
    let known : is_query_class (number 1 m 66) (number 1 m 67) ≡ true = rw (p.fixed.1.0, p.fixed.1.1.0) p.known in
    let class : class_fault (is_query_class (number 1 m 66) (number 1 m 67)) (number 1 m 67) ≡ None =
    no_class_fault (is_query_class (number 1 m 66) (number 1 m 67)) (number 1 m 67) known in
    let input : part_fault m (number 2 m 72) (number 4 m 76) 104 Input ≡ None = no_part_fault m _ _ _ _ Input p.input in
    grind (arith, common_steps)

pub returns-clause-given : goal.returns-clause-given
returns-clause-given c = λ m none.
    let front = fields_fault m (query_info_request_table (query_info_request_in m) (number 2 m 72)) or_else size_fault m 41 in
    let front_known = front or_else class_fault (is_query_class (number 1 m 66) (number 1 m 67)) (number 1 m 67) in
    let at_input = none_of front_known (part_fault m (number 2 m 72) (number 4 m 76) 104 Input) none in
    let at_known = none_of front (class_fault (is_query_class (number 1 m 66) (number 1 m 67)) (number 1 m 67)) at_input.0 in
    let input = part_stands m (number 2 m 72) (number 4 m 76) 104 Input at_input.1 in
    record {
      fixed = grind (arith, common_steps);
      known = class_stands (is_query_class (number 1 m 66) (number 1 m 67)) (number 1 m 67) at_known.1;
      input = input;
    }

pub returns-clause-again : goal.returns-clause-again
returns-clause-again c = λ header rest v e fit.
    let m : List ℕ = header ++ (query_info_request_spelling v ++ rest) in
    let row = table_again (query_info_request_whole v) header rest 64 e fit.fits in
    let input_told : number 2 m 72 ≡ told (length v.input) 104 = grind (arith, common_steps) in
    let input_len : number 4 m 76 ≡ length v.input = grind (arith, common_steps) in
    let input_bytes : bytes_at (length v.input) m 104 ≡ v.input = grind (arith, common_steps) in
    let input_inside : 104 + length v.input ≤ length m = grind (arith, common_steps) in
    record {
      fixed = grind (arith, common_steps);
      known = fit.known;
      input = rw input_told (part_told m v.input 104 (told (length v.input) 104) (number 4 m 76) 104 input_len
          input_bytes (told_stands (length v.input) 104 104 (length m) (omega arith) input_inside));
    }
