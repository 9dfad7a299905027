use Rattle.law_scripts.specs.script_setup.Scripts.{drill_settings}
use Rattle.drill_command.proofs.script_run.Begun.{begun_by, ok_with}
use Rattle.drill_command.proofs.script_run.starting.world_as.Goals as goal

pub returns : goal.returns
returns c =
    ok_with c.begin.result (λ x shown first connects. shown (drill_settings c.args.settings.now c.args.seed)
    (begun_by c.args.settings.now c.args.user.now c.in_ok-config.config c.in_ok-client.client c.args.seed first c.in_ok-config.ensures
    c.in_ok-client.ensures.is c.in_ok-client.ensures.offers connects)) c.begin.ensures
