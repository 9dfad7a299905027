use Rattle.std.proofs.Common.{sym, ap, ◌∙◌}
use Rattle.law_scripts.specs.script_setup.Scripts.{first_user}
use Rattle.drill_command.proofs.script_run.Begun.{ok_with}
use Rattle.drill_command.proofs.script_run.starting.world_of.Goals as goal

pub returns-in-Some : goal.returns-in-Some
returns-in-Some c =
    ok_with c.world_as.result (λ x shown. shown (ap first_user (sym c.as_slice.ensures) ∙ c.in-Some.ensures)) c.world_as.ensures
