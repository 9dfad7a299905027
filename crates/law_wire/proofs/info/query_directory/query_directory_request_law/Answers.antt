use Rattle.std.proofs.Common.{◌≡◌, true, ℕ, ◌+◌, ◌≤◌, ◌++◌, List, length, None, arith}
use Rattle.std.proofs.lemmas.Grind.{common_steps}
use Rattle.spec_wire.specs.messages.Places.{number, bytes_at}
use Rattle.spec_wire.specs.messages.Aligned.{told}
use Rattle.spec_wire.specs.messages.Fault.{◌or_else◌, fields_fault, size_fault, part_fault}
use Rattle.spec_wire.specs.messages.Classes.{class_fault, is_directory_class}
use Rattle.spec_wire.specs.declared.messages.error.Part.TheVariants.{Name}
use Rattle.spec_wire.specs.messages.QueryDirectory.{query_directory_request_table, query_directory_request_in}
use Rattle.spec_wire.specs.messages.QueryDirectory.{query_directory_request_whole, query_directory_request_spelling}
use Rattle.law_wire.proofs.messages.Rows.{table_again}
use Rattle.law_wire.proofs.messages.Faults.{no_part_fault, part_stands, none_of, part_told}
use Rattle.law_wire.proofs.messages.Told.{told_stands, no_class_fault, class_stands}
use Rattle.law_wire.proofs.info.query_directory.query_directory_request_law.Goals as goal

pub returns-clause-whole : goal.returns-clause-whole
returns-clause-whole c = λ m v p.
    let known : is_directory_class (number 1 m 66) ≡ true = rw (p.fixed.1.0) p.known in
    let class : class_fault (is_directory_class (number 1 m 66)) (number 1 m 66) ≡ None =
    no_class_fault (is_directory_class (number 1 m 66)) (number 1 m 66) known in
    let name : part_fault m (number 2 m 88) (number 2 m 90) 96 Name ≡ None = no_part_fault m _ _ _ _ Name p.name in
    grind (arith, common_steps)

pub returns-clause-given : goal.returns-clause-given
returns-clause-given c = λ m none.
    let front = fields_fault m (query_directory_request_table (query_directory_request_in m) (number 2 m 88)) or_else size_fault m 33 in
    let front_known = front or_else class_fault (is_directory_class (number 1 m 66)) (number 1 m 66) in
    let at_name = none_of front_known (part_fault m (number 2 m 88) (number 2 m 90) 96 Name) none in
    let at_known = none_of front (class_fault (is_directory_class (number 1 m 66)) (number 1 m 66)) at_name.0 in
    let name = part_stands m (number 2 m 88) (number 2 m 90) 96 Name at_name.1 in
    record {
      fixed = grind (arith, common_steps);
      known = class_stands (is_directory_class (number 1 m 66)) (number 1 m 66) at_known.1;
      name = name;
    }

pub returns-clause-again : goal.returns-clause-again
returns-clause-again c = λ header rest v e fit.
    let m : List ℕ = header ++ (query_directory_request_spelling v ++ rest) in
    let row = table_again (query_directory_request_whole v) header rest 64 e fit.fits in
    let name_told : number 2 m 88 ≡ told (length v.name) 96 = grind (arith, common_steps) in
    let name_len : number 2 m 90 ≡ length v.name = grind (arith, common_steps) in
    let name_bytes : bytes_at (length v.name) m 96 ≡ v.name = grind (arith, common_steps) in
    let name_inside : 96 + length v.name ≤ length m = grind (arith, common_steps) in
    record {
      fixed = grind (arith, common_steps);
      known = fit.known;
      name = rw name_told (part_told m v.name 96 (told (length v.name) 96) (number 2 m 90) 96 name_len name_bytes
          (told_stands (length v.name) 96 96 (length m) (omega arith) name_inside));
    }
