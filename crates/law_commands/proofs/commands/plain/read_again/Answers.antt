use Rattle.std.proofs.Common.{ℕ, List, ◌++◌, ap, ◌∙◌, arith}
use Rattle.spec_wire.specs.messages.Read.{SpellsReadRequest, read_request_fault, read_request_in}
use Rattle.spec_wire.specs.declared.messages.message.ReadRequest.{ReadRequest}
use Rattle.spec_exchange.specs.Commands.{Command, Read}
use Rattle.spec_commands.specs.Ids.{file_of}
use Rattle.spec_commands.specs.BodyOf.{body_of, read_value}
use Rattle.spec_commands.specs.CommandOf.{read_in}
use Rattle.law_commands.proofs.commands.Fields.{file_again, length-file_id}
use Rattle.law_commands.proofs.commands.ReadBack.{found, read_as}
use Rattle.law_commands.proofs.commands.Paid.{told_most, paid_is}
use Rattle.law_commands.proofs.commands.plain.read_again.Goals as goal

abbrev of_value : ReadRequest → Command
of_value v = Read (file_of v.file_id) v.offset v.length v.minimum_count v.channel

pub returns : goal.returns
unfolding read_in body_of
returns c = λ paid header rest file at size minimum channel len small far long least on pays.
    let law = c.read_request_law.ensures in
    let v : ReadRequest = read_value file at size minimum channel in
    let m : List ℕ = header ++ (body_of (Read file at size minimum channel) ++ rest) in
    let is = found SpellsReadRequest read_request_fault read_request_in law.one law.whole law.given m v
    (law.again header rest v len (
      omega arith,
      (
        omega arith,
        (
          long,
          (
            far,
            (
              length-file_id file,
              (
                least,
                (
                  on,
                  (omega arith, tt),
                ),
              ),
            ),
          ),
        ),
      ),
    )) in
    let told = ap (λ (r : ReadRequest). r.length) is.1 in
    paid_is 8 paid size m (read_in m) (Read file at size minimum channel) (told_most m 68 size told) pays
    (read_as SpellsReadRequest read_request_fault read_request_in of_value m v is
    ∙ ap (λ (o : ℕ). Read o at size minimum channel) (file_again file small))
