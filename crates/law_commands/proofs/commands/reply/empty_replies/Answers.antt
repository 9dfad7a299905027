use Rattle.std.proofs.Common.{ℕ, List, ◌++◌, Some, arith}
use Rattle.spec_wire.specs.messages.Close.{close_response_fault, close_response_spelling}
use Rattle.spec_wire.specs.messages.Flush.{flush_response_fault, flush_response_spelling}
use Rattle.spec_wire.specs.messages.LockResponse.{lock_response_fault, lock_response_spelling}
use Rattle.spec_wire.specs.messages.SetInfo.{set_info_response_fault, set_info_response_spelling}
use Rattle.spec_wire.specs.declared.messages.file_message.FlushResponse.{FlushResponse}
use Rattle.spec_wire.specs.declared.messages.file_message.LockResponse.{LockResponse}
use Rattle.spec_wire.specs.declared.messages.file_message.SetInfoResponse.{SetInfoResponse}
use Rattle.spec_exchange.specs.State.{Empty}
use Rattle.spec_commands.specs.ReplyBody.{untold_value}
use Rattle.spec_commands.specs.ReplyOf.{body_in}
use Rattle.law_commands.proofs.commands.HeardBack.{unbroken}
use Rattle.law_commands.proofs.commands.reply.empty_replies.Goals as goal

pub returns-clause-close : goal.returns-clause-close
unfolding body_in
returns-clause-close c = λ header rest token file query len.
    let law = c.close_response_law.ensures in
    let m : List ℕ = header ++ (close_response_spelling untold_value ++ rest) in
    let spelled = law.again header rest untold_value len (
      omega arith,
      (
        omega arith,
        (
          omega arith,
          (
            omega arith,
            (
              omega
                  arith,
              (omega arith, (omega arith, (omega arith, (omega arith, tt)))),
            ),
          ),
        ),
      ),
    ) in
    unbroken (close_response_fault m) (Some Empty) (law.whole m untold_value spelled)

pub returns-clause-flush : goal.returns-clause-flush
unfolding body_in
returns-clause-flush c = λ header rest token file len.
    let law = c.flush_response_law.ensures in
    let v : FlushResponse = record {} in
    let m : List ℕ = header ++ (flush_response_spelling v ++ rest) in
    unbroken (flush_response_fault m) (Some Empty) (law.whole m v (law.again header rest v len (omega arith, tt)))

pub returns-clause-lock : goal.returns-clause-lock
unfolding body_in
returns-clause-lock c = λ header rest token file index number elements len.
    let law = c.lock_response_law.ensures in
    let v : LockResponse = record {} in
    let m : List ℕ = header ++ (lock_response_spelling v ++ rest) in
    unbroken (lock_response_fault m) (Some Empty) (law.whole m v (law.again header rest v len (omega arith, tt)))

pub returns-clause-set : goal.returns-clause-set
unfolding body_in
returns-clause-set c = λ header rest token file setting len.
    let law = c.set_info_response_law.ensures in
    let v : SetInfoResponse = record {} in
    let m : List ℕ = header ++ (set_info_response_spelling v ++ rest) in
    unbroken (set_info_response_fault m) (Some Empty) (law.whole m v (law.again header rest v len (omega arith, tt)))
