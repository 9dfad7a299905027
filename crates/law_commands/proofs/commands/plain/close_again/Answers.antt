use Rattle.std.proofs.Common.{ℕ, List, ◌++◌, ap, ◌∙◌, arith}
use Rattle.spec_wire.specs.messages.Close.{SpellsCloseRequest, close_request_fault, close_request_in}
use Rattle.spec_wire.specs.declared.messages.file_message.CloseRequest.{CloseRequest}
use Rattle.spec_exchange.specs.Commands.{Command, Close, has_bit}
use Rattle.spec_commands.specs.Ids.{file_of}
use Rattle.spec_commands.specs.BodyOf.{body_of, close_value}
use Rattle.spec_commands.specs.CommandOf.{close_in}
use Rattle.law_commands.proofs.commands.Fields.{file_again, length-file_id, bit_again, bit_small}
use Rattle.law_commands.proofs.commands.ReadBack.{found, read_as}
use Rattle.law_commands.proofs.commands.plain.close_again.Goals as goal

abbrev of_value : CloseRequest → Command
of_value v = Close (file_of v.file_id) (has_bit v.flags 1)

pub returns : goal.returns
unfolding close_in body_of
returns c = λ header rest file query len small.
    let law = c.close_request_law.ensures in
    let v : CloseRequest = close_value file query in
    let m : List ℕ = header ++ (body_of (Close file query) ++ rest) in
    let is = found SpellsCloseRequest close_request_fault close_request_in law.one law.whole law.given m v (law.again
    header rest v len (omega arith, (omega (arith, bit_small query), (length-file_id file, tt)))) in
    read_as SpellsCloseRequest close_request_fault close_request_in of_value m v is
    ∙ ap (λ (o : ℕ). Close o (has_bit v.flags 1)) (file_again file small) ∙ ap (Close file) (bit_again query)
