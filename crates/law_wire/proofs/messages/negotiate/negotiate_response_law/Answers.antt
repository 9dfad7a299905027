use Rattle.std.proofs.Common.{◌≡◌, ◌+◌, ◌≤◌, ◌++◌, ℕ, List, length, None, arith}
use Rattle.std.proofs.lemmas.Grind.{common_steps}
use Rattle.spec_wire.specs.messages.Places.{number, bytes_at}
use Rattle.spec_wire.specs.messages.Fault.{◌or_else◌, fields_fault, size_fault, part_fault}
use Rattle.spec_wire.specs.declared.messages.error.Part.TheVariants.{Security}
use Rattle.spec_wire.specs.messages.Contexts.{contexts_fault, contexts_gap, contexts_told}
use Rattle.spec_wire.specs.messages.Negotiate.{negotiate_response_table, negotiate_response_in, negotiate_response_whole}
use Rattle.spec_wire.specs.messages.Negotiate.{negotiate_response_spelling}
use Rattle.law_wire.proofs.messages.Rows.{table_again}
use Rattle.law_wire.proofs.messages.Faults.{no_part_fault, part_stands, none_of}
use Rattle.law_wire.proofs.messages.ContextLists.{no_list_fault, contexts_stand, contexts_again}
use Rattle.law_wire.proofs.messages.negotiate.negotiate_response_law.Goals as goal

pub returns-clause-whole : goal.returns-clause-whole
returns-clause-whole c = λ m v p.
    let security : part_fault m (number 2 m 120) (number 2 m 122) 128 Security ≡ None = no_part_fault m _ _ _ _ Security p.security in
    let contexts : contexts_fault m (number 4 m 124) (number 2 m 70) 128 ≡ None = no_list_fault m _ _ _ _ p.contexts in
    grind (arith, common_steps)

pub returns-clause-given : goal.returns-clause-given
returns-clause-given c = λ m none.
    let fields = fields_fault m (negotiate_response_table (negotiate_response_in m) (number 2 m 120) (number 4 m 124))
    or_else size_fault m 65 in
    let front = fields or_else part_fault m (number 2 m 120) (number 2 m 122) 128 Security in
    let split = none_of front (contexts_fault m (number 4 m 124) (number 2 m 70) 128) none in
    let earlier = none_of fields (part_fault m (number 2 m 120) (number 2 m 122) 128 Security) split.0 in
    let security = part_stands m (number 2 m 120) (number 2 m 122) 128 Security earlier.1 in
    let contexts = contexts_stand m (number 4 m 124) (number 2 m 70) 128 split.1 in
    record { fixed = grind (arith, common_steps); security = security; contexts = contexts }

pub returns-clause-again : goal.returns-clause-again
returns-clause-again c = λ header rest v e fit.
    let m : List ℕ = header ++ (negotiate_response_spelling v ++ rest) in
    let row = table_again (negotiate_response_whole v) header rest 64 e fit.fits in
    let count : ℕ = v.negotiate_context_count in
    let behind : ℕ = 128 + length v.security in
    let told : number 4 m 124 ≡ contexts_told count behind = grind (arith, common_steps) in
    let same : number 2 m 70 ≡ count = grind (arith, common_steps) in
    let bytes : bytes_at (length v.contexts) m (behind + contexts_gap count behind) ≡ v.contexts = grind (arith, common_steps) in
    let inside : behind + contexts_gap count behind + length v.contexts ≤ length m = grind (arith, common_steps) in
    record {
      fixed = grind (arith, common_steps);
      security = record { bytes = grind (arith, common_steps); whole = grind (arith, common_steps); place = grind (arith, common_steps) };
      contexts = rw same (contexts_again m v.contexts count behind (number 4 m 124) 128 fit.contexts told (omega arith) bytes inside);
    }
