use Rattle.std.proofs.Common.{ℕ, List, ◌++◌, ap, ◌∙◌, arith}
use Rattle.spec_wire.specs.messages.Flush.{SpellsFlushRequest, flush_request_fault, flush_request_in}
use Rattle.spec_wire.specs.declared.messages.file_message.FlushRequest.{FlushRequest}
use Rattle.spec_exchange.specs.Commands.{Command, Flush}
use Rattle.spec_commands.specs.Ids.{file_of}
use Rattle.spec_commands.specs.BodyOf.{body_of, flush_value}
use Rattle.spec_commands.specs.CommandOf.{flush_in}
use Rattle.law_commands.proofs.commands.Fields.{file_again, length-file_id}
use Rattle.law_commands.proofs.commands.ReadBack.{found, read_as}
use Rattle.law_commands.proofs.commands.plain.flush_again.Goals as goal

abbrev of_value : FlushRequest → Command
of_value v = Flush (file_of v.file_id)

pub returns : goal.returns
unfolding flush_in body_of
returns c = λ header rest file len small.
    let law = c.flush_request_law.ensures in
    let v : FlushRequest = flush_value file in
    let m : List ℕ = header ++ (body_of (Flush file) ++ rest) in
    let is = found SpellsFlushRequest flush_request_fault flush_request_in law.one law.whole law.given m v (law.again
    header rest v len (omega arith, (length-file_id file, tt))) in
    read_as SpellsFlushRequest flush_request_fault flush_request_in of_value m v is ∙ ap Flush (file_again file small)
