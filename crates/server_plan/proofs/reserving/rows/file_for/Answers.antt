use Rattle.std.proofs.Common.{ap, sym, ◌∙◌}
use Rattle.spec_exchange.specs.Effects.{new_file}
use Rattle.server_plan.proofs.reserving.rows.file_for.Goals as goal

pub returns-in-Some : goal.returns-in-Some
returns-in-Some c = λ s h. ap (new_file s) (sym c.in-Some.is)

pub returns-in-None : goal.returns-in-None
returns-in-None c = λ s h. c.next_file.ensures.shown s h ∙ ap (new_file s) (sym c.in-None.is)
