use Rattle.std.proofs.Common.{◌≡◌, None, arith}
use Rattle.std.proofs.lemmas.Grind.{common_steps}
use Rattle.spec_wire.specs.messages.Places.{number}
use Rattle.spec_wire.specs.messages.Fault.{◌or_else◌, fields_fault, size_fault, count_fault}
use Rattle.spec_wire.specs.declared.messages.error.Part.TheVariants.{Locks}
use Rattle.spec_wire.specs.messages.Lock.{lock_request_table, lock_request_in, lock_request_whole, lock_count}
use Rattle.law_wire.proofs.messages.Rows.{table_again}
use Rattle.law_wire.proofs.messages.Faults.{no_count_fault, list_stands, none_of}
use Rattle.law_wire.proofs.messages.lock.lock_request_law.Goals as goal

pub returns-clause-whole : goal.returns-clause-whole
returns-clause-whole c = λ m v p.
    let locks : count_fault m 88 (number 2 m 66) 24 Locks ≡ None = no_count_fault m _ _ _ _ Locks p.locks in
    grind (arith, common_steps)

pub returns-clause-given : goal.returns-clause-given
returns-clause-given c = λ m none.
    let front = fields_fault m (lock_request_table (lock_request_in m) (number 2 m 66)) or_else size_fault m 48 in
    let split = none_of front (count_fault m 88 (number 2 m 66) 24 Locks) none in
    let locks = list_stands m 88 (number 2 m 66) 24 Locks split.1 in
    record { fixed = grind (arith, common_steps); locks = locks }

pub returns-clause-again : goal.returns-clause-again
returns-clause-again c = λ header rest v e fit.
    let row = table_again (lock_request_whole v (lock_count v)) header rest 64 e fit.fits in
    record {
      fixed = grind (arith, common_steps);
      locks = record {
        bytes = grind (arith, common_steps);
        whole = grind (arith, common_steps);
        some = grind (arith, common_steps, fit.some);
        place = grind (arith, common_steps);
      };
    }
