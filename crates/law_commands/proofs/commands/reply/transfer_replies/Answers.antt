use Rattle.std.proofs.Common.{ℕ, List, ◌++◌, Option, Some, refl, arith}
use Rattle.spec_wire.specs.messages.Read.{ReadResponseValue, SpellsReadResponse, read_response_fault, read_response_in}
use Rattle.spec_wire.specs.messages.Read.{read_response_spelling}
use Rattle.spec_wire.specs.messages.Write.{SpellsWriteResponse, write_response_fault, write_response_in, write_response_spelling}
use Rattle.spec_wire.specs.declared.messages.message.WriteResponse.{WriteResponse}
use Rattle.spec_exchange.specs.State.{Body, Content, Count}
use Rattle.spec_commands.specs.ReplyBody.{content_value, count_value}
use Rattle.spec_commands.specs.ReplyOf.{body_in}
use Rattle.law_commands.proofs.commands.ReadBack.{found}
use Rattle.law_commands.proofs.commands.HeardBack.{heard_as}
use Rattle.law_commands.proofs.commands.reply.transfer_replies.Goals as goal

abbrev content_of : ReadResponseValue → Option Body
content_of v = Some (Content v.payload)

abbrev count_of : WriteResponse → Option Body
count_of v = Some (Count v.count)

pub returns-clause-read : goal.returns-clause-read
unfolding body_in
returns-clause-read c = λ header rest token file at size minimum channel bytes len few.
    let law = c.read_response_law.ensures in
    let v : ReadResponseValue = content_value bytes in
    let m : List ℕ = header ++ (read_response_spelling v ++ rest) in
    heard_as read_response_fault read_response_in content_of m v
    (found SpellsReadResponse read_response_fault read_response_in law.one law.whole law.given m v (law.again header
    rest v len (omega arith, (omega arith, (few, (omega arith, (refl, tt)))))))

pub returns-clause-write : goal.returns-clause-write
unfolding body_in
returns-clause-write c = λ header rest token file at bytes channel count len few.
    let law = c.write_response_law.ensures in
    let v : WriteResponse = count_value count in
    let m : List ℕ = header ++ (write_response_spelling v ++ rest) in
    heard_as write_response_fault write_response_in count_of m v
    (found SpellsWriteResponse write_response_fault write_response_in law.one law.whole law.given m v (law.again
    header rest v len (omega arith, (few, (omega arith, tt)))))
