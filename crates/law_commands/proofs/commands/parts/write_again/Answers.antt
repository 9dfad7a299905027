use Rattle.std.proofs.Common.{◌≡◌, ℕ, List, length, ◌++◌, refl, ap, ◌∙◌, arith}
use Rattle.spec_wire.specs.messages.Places.{number}
use Rattle.spec_wire.specs.messages.Write.{WriteRequestValue, SpellsWriteRequest, write_request_fault, write_request_in}
use Rattle.spec_exchange.specs.Commands.{Command, Write}
use Rattle.spec_commands.specs.Ids.{file_of}
use Rattle.spec_commands.specs.BodyOf.{body_of, write_value}
use Rattle.spec_commands.specs.CommandOf.{write_in}
use Rattle.law_commands.proofs.commands.Fields.{file_again, length-file_id}
use Rattle.law_commands.proofs.commands.ReadBack.{found, read_as}
use Rattle.law_commands.proofs.commands.Paid.{told_most, paid_is}
use Rattle.law_commands.proofs.commands.parts.write_again.Goals as goal

abbrev of_value : WriteRequestValue → Command
of_value v = Write (file_of v.file_id) v.offset v.payload v.channel

pub returns : goal.returns
unfolding write_in body_of
returns c = λ paid header rest file at bytes channel len small far few on pays.
    let law = c.write_request_law.ensures in
    let v : WriteRequestValue = write_value file at bytes channel in
    let m : List ℕ = header ++ (body_of (Write file at bytes channel) ++ rest) in
    let spells : SpellsWriteRequest m v = law.again header rest v len (
      omega arith,
      (
        omega arith,
        (
          few,
          (
            far,
            (
              length-file_id file,
              (
                on,
                (
                  omega
                      arith,
                  (omega arith, (refl, tt)),
                ),
              ),
            ),
          ),
        ),
      ),
    ) in
    let is = found SpellsWriteRequest write_request_fault write_request_in law.one law.whole law.given m v spells in
    let told : number 4 m 68 ≡ length bytes = spells.fixed.1.1.0 in
    paid_is 9 paid (length bytes) m (write_in m) (Write file at bytes channel) (told_most m 68 (length bytes) told) pays
    (read_as SpellsWriteRequest write_request_fault write_request_in of_value m v is
    ∙ ap (λ (o : ℕ). Write o at bytes channel) (file_again file small))
