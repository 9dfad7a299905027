use Rattle.std.proofs.Common.{◌≡◌, ◌++◌, ◌∙◌}
use Rattle.std.proofs.lemmas.Option.{IfSome_then}
use Rattle.spec_wire.specs.messages.Places.{bytes_at}
use Rattle.spec_world.specs.Related.{file_place}
use Rattle.spec_exchange.specs.Operations.{request_of}
use Rattle.spec_commands.specs.BodyOf.{body_of, number_of_command}
use Rattle.spec_commands.specs.Ids.{file_kept}
use Rattle.law_commands.proofs.commands.Halves.{back}
use Rattle.law_ties.proofs.wire_facts.Carried.{of_operation}
use Rattle.law_ties.proofs.wire_facts.file_ids_carried_law.Goals as goal

pub returns : goal.returns
returns c = record {
  carried = λ header rest id op guid slot number len long are. (
      let q = request_of op guid (file_kept id) slot number in
      IfSome_then (file_place (number_of_command q)) (of_operation header rest op guid (file_kept id) slot number len)
      (λ place is. is ∙ back id long are));
}
