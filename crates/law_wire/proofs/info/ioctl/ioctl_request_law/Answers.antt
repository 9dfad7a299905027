use Rattle.std.proofs.Common.{◌≡◌, ℕ, ◌+◌, ◌≤◌, ◌++◌, List, length, None, arith}
use Rattle.std.proofs.lemmas.Grind.{common_steps}
use Rattle.spec_wire.specs.messages.Places.{number, bytes_at}
use Rattle.spec_wire.specs.messages.Aligned.{told, aligned_gap}
use Rattle.spec_wire.specs.messages.Fault.{◌or_else◌, fields_fault, size_fault, part_fault}
use Rattle.spec_wire.specs.declared.messages.error.Part.TheVariants.{Input, Output}
use Rattle.spec_wire.specs.messages.Ioctl.{ioctl_request_table, ioctl_request_in, ioctl_request_whole, ioctl_request_spelling}
use Rattle.law_wire.proofs.messages.Rows.{table_again}
use Rattle.law_wire.proofs.messages.Faults.{no_part_fault, part_stands, none_of, part_told}
use Rattle.law_wire.proofs.messages.Told.{told_stands}
use Rattle.law_wire.proofs.info.ioctl.ioctl_request_law.Goals as goal

pub returns-clause-whole : goal.returns-clause-whole
returns-clause-whole c = λ m v p.
    let input : part_fault m (number 4 m 88) (number 4 m 92) 120 Input ≡ None = no_part_fault m _ _ _ _ Input p.input in
    let output : part_fault m (number 4 m 100) (number 4 m 104) 120 Output ≡ None = no_part_fault m _ _ _ _ Output p.output in
    grind (arith, common_steps)

pub returns-clause-given : goal.returns-clause-given
returns-clause-given c = λ m none.
    let front = fields_fault m (ioctl_request_table (ioctl_request_in m) (number 4 m 88) (number 4 m 100)) or_else size_fault m 57 in
    let front_input = front or_else part_fault m (number 4 m 88) (number 4 m 92) 120 Input in
    let at_output = none_of front_input (part_fault m (number 4 m 100) (number 4 m 104) 120 Output) none in
    let at_input = none_of front (part_fault m (number 4 m 88) (number 4 m 92) 120 Input) at_output.0 in
    let input = part_stands m (number 4 m 88) (number 4 m 92) 120 Input at_input.1 in
    let output = part_stands m (number 4 m 100) (number 4 m 104) 120 Output at_output.1 in
    record { fixed = grind (arith, common_steps); input = input; output = output }

pub returns-clause-again : goal.returns-clause-again
returns-clause-again c = λ header rest v e fit.
    let m : List ℕ = header ++ (ioctl_request_spelling v ++ rest) in
    let row = table_again (ioctl_request_whole v) header rest 64 e fit in
    let input_told : number 4 m 88 ≡ told (length v.input) 120 = grind (arith, common_steps) in
    let input_len : number 4 m 92 ≡ length v.input = grind (arith, common_steps) in
    let input_bytes : bytes_at (length v.input) m 120 ≡ v.input = grind (arith, common_steps) in
    let input_inside : 120 + length v.input ≤ length m = grind (arith, common_steps) in
    let output_at : ℕ = 120 + length v.input + aligned_gap (length v.output) (length v.input) in
    let output_told : number 4 m 100 ≡ told (length v.output) output_at = grind (arith, common_steps) in
    let output_len : number 4 m 104 ≡ length v.output = grind (arith, common_steps) in
    let output_bytes : bytes_at (length v.output) m output_at ≡ v.output = grind (arith, common_steps) in
    let output_inside : output_at + length v.output ≤ length m = grind (arith, common_steps) in
    record {
      fixed = grind (arith, common_steps);
      input = rw input_told (part_told m v.input 120 (told (length v.input) 120) (number 4 m 92) 120 input_len
          input_bytes (told_stands (length v.input) 120 120 (length m) (omega arith) input_inside));
      output = rw output_told (part_told m v.output output_at (told (length v.output) output_at) (number 4 m 104) 120
          output_len output_bytes (told_stands (length v.output) output_at 120 (length m) (omega arith) output_inside));
    }
