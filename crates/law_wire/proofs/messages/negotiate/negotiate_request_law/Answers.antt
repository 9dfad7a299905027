use Rattle.std.proofs.Common.{◌≡◌, ◌+◌, ◌*◌, ◌≤◌, ◌++◌, ℕ, List, length, None, arith}
use Rattle.std.proofs.lemmas.Grind.{common_steps}
use Rattle.spec_wire.specs.messages.Places.{number, bytes_at}
use Rattle.spec_wire.specs.messages.Fault.{◌or_else◌, fields_fault, size_fault, count_fault}
use Rattle.spec_wire.specs.declared.messages.error.Part.TheVariants.{Dialects}
use Rattle.spec_wire.specs.messages.Contexts.{contexts_fault, contexts_gap, contexts_told}
use Rattle.spec_wire.specs.messages.Negotiate.{dialect_count, negotiate_request_table, negotiate_request_in}
use Rattle.spec_wire.specs.messages.Negotiate.{negotiate_request_whole, negotiate_request_spelling}
use Rattle.law_wire.proofs.messages.Rows.{table_again}
use Rattle.law_wire.proofs.messages.Faults.{no_count_fault, list_stands, none_of}
use Rattle.law_wire.proofs.messages.ContextLists.{no_list_fault, contexts_stand, contexts_again}
use Rattle.law_wire.proofs.messages.negotiate.negotiate_request_law.Goals as goal

pub returns-clause-whole : goal.returns-clause-whole
returns-clause-whole c = λ m v p.
    let dialects : count_fault m 100 (number 2 m 66) 2 Dialects ≡ None = no_count_fault m _ _ _ _ Dialects p.dialects in
    let contexts : contexts_fault m (number 4 m 92) (number 2 m 96) 100 ≡ None = no_list_fault m _ _ _ _ p.contexts in
    grind (arith, common_steps)

pub returns-clause-given : goal.returns-clause-given
returns-clause-given c = λ m none.
    let fields = fields_fault m (negotiate_request_table (negotiate_request_in m) (number 2 m 66) (number 4 m 92))
    or_else size_fault m 36 in
    let front = fields or_else count_fault m 100 (number 2 m 66) 2 Dialects in
    let split = none_of front (contexts_fault m (number 4 m 92) (number 2 m 96) 100) none in
    let earlier = none_of fields (count_fault m 100 (number 2 m 66) 2 Dialects) split.0 in
    let dialects = list_stands m 100 (number 2 m 66) 2 Dialects earlier.1 in
    let contexts = contexts_stand m (number 4 m 92) (number 2 m 96) 100 split.1 in
    record { fixed = grind (arith, common_steps); dialects = dialects; contexts = contexts }

pub returns-clause-again : goal.returns-clause-again
returns-clause-again c = λ header rest v e fit.
    let m : List ℕ = header ++ (negotiate_request_spelling v ++ rest) in
    let row = table_again (negotiate_request_whole v) header rest 64 e fit.fits in
    let count : ℕ = v.negotiate_context_count in
    let behind : ℕ = 100 + length v.dialects in
    let whole : length v.dialects ≡ dialect_count v * 2 = grind (arith, common_steps) in
    let told : number 4 m 92 ≡ contexts_told count behind = grind (arith, common_steps) in
    let same : number 2 m 96 ≡ count = grind (arith, common_steps) in
    let bytes : bytes_at (length v.contexts) m (behind + contexts_gap count behind) ≡ v.contexts = grind (arith, common_steps) in
    let inside : behind + contexts_gap count behind + length v.contexts ≤ length m = grind (arith, common_steps) in
    record {
      fixed = grind (arith, common_steps);
      dialects = record {
        bytes = grind (arith, common_steps);
        whole = grind (arith, common_steps);
        some = grind (arith, common_steps, fit.some);
        place = grind (arith, common_steps);
      };
      contexts = rw same (contexts_again m v.contexts count behind (number 4 m 92) 100 fit.contexts told (omega arith) bytes inside);
    }
