use Rattle.std.proofs.Common.{◌≡◌, ℕ, ◌+◌, ◌≤◌, ◌++◌, List, length, None, arith}
use Rattle.std.proofs.lemmas.Grind.{common_steps}
use Rattle.spec_wire.specs.messages.Places.{number, bytes_at}
use Rattle.spec_wire.specs.messages.Aligned.{told}
use Rattle.spec_wire.specs.messages.Fault.{◌or_else◌, fields_fault, size_fault, part_fault}
use Rattle.spec_wire.specs.declared.messages.error.Part.TheVariants.{Contexts}
use Rattle.spec_wire.specs.messages.CreateResponse.{create_response_table, create_response_in, create_response_whole}
use Rattle.spec_wire.specs.messages.CreateResponse.{create_response_spelling}
use Rattle.law_wire.proofs.messages.Rows.{table_again}
use Rattle.law_wire.proofs.messages.Faults.{no_part_fault, part_stands, none_of, part_told}
use Rattle.law_wire.proofs.messages.Told.{told_stands}
use Rattle.law_wire.proofs.messages.create_response.create_response_law.Goals as goal

pub returns-clause-whole : goal.returns-clause-whole
returns-clause-whole c = λ m v p.
    let contexts : part_fault m (number 4 m 144) (number 4 m 148) 152 Contexts ≡ None = no_part_fault m _ _ _ _ Contexts p.contexts in
    grind (arith, common_steps)

pub returns-clause-given : goal.returns-clause-given
returns-clause-given c = λ m none.
    let front = fields_fault m (create_response_table (create_response_in m) (number 4 m 144)) or_else size_fault m 89 in
    let at_contexts = none_of front (part_fault m (number 4 m 144) (number 4 m 148) 152 Contexts) none in
    let contexts = part_stands m (number 4 m 144) (number 4 m 148) 152 Contexts at_contexts.1 in
    record { fixed = grind (arith, common_steps); contexts = contexts }

pub returns-clause-again : goal.returns-clause-again
returns-clause-again c = λ header rest v e fit.
    let m : List ℕ = header ++ (create_response_spelling v ++ rest) in
    let row = table_again (create_response_whole v) header rest 64 e fit in
    let contexts_told : number 4 m 144 ≡ told (length v.contexts) 152 = grind (arith, common_steps) in
    let contexts_len : number 4 m 148 ≡ length v.contexts = grind (arith, common_steps) in
    let contexts_bytes : bytes_at (length v.contexts) m 152 ≡ v.contexts = grind (arith, common_steps) in
    let contexts_inside : 152 + length v.contexts ≤ length m = grind (arith, common_steps) in
    record {
      fixed = grind (arith, common_steps);
      contexts = rw contexts_told (part_told m v.contexts 152 (told (length v.contexts) 152) (number 4 m 148) 152
          contexts_len contexts_bytes (told_stands (length v.contexts) 152 152 (length m) (omega arith)
          contexts_inside));
    }
