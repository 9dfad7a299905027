use Rattle.std.proofs.Common.{ap}
use Rattle.server_checks.specs.declared.tables.Config.{Config}
use Rattle.world_ends.proofs.memory_server.Begun.{is_short, with_both}
use Rattle.world_ends.proofs.memory_server.beginning.begin.Goals as goal

-- an empty disk is short
pub returns : goal.returns
returns c = with_both c.begin_on.result c.begin_on.ensures.begins c.begin_on.ensures.config
    (λ b begins is L. record {
      held = (
        ap (λ (v : Config). v.users) is,
        c.begun_law.ensures.anew tt c.in_ok-disk.disk c.args.config _ L (is_short c.in_ok-disk.disk c.in_ok-disk.ensures) begins,
      );
      goes_on = begins.0;
    })
