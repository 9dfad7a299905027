use Rattle.std.proofs.Common.{◌∙◌}
use Rattle.world_ends.proofs.memory_server.Begun.{begun_again, with_both}
use Rattle.world_ends.proofs.memory_server.beginning.restart.Goals as goal

-- begun_law speaks of disks that tell their bytes; one in memory does
pub returns : goal.returns
returns c = with_both c.begin_on.result c.begin_on.ensures.begins c.begin_on.ensures.config
    (λ b begins is users s L records h.
    begun_again (c.begun_law.ensures.again tt) c.args.book b _ _ users s L records (c.in_ok-config.ensures
    ∙ c.config.ensures) c.stop.ensures
    begins is h)
