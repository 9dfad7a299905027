use Rattle.std.proofs.Common.{refl}
use Rattle.spec_world.specs.Settings.{values_of}
use Rattle.world_steps.proofs.beginning.Begun.{begun}
use Rattle.world_steps.proofs.beginning.beginning.begin.Goals as goal

pub returns : goal.returns
returns c = λ z i.
    begun z _ c.args.config c.in_ok-book.book i refl c.in_ok-book.ensures (c.new-client.ensures (values_of z)) c.salt_of.ensures refl refl
    c.no_keys.ensures refl refl refl refl c.new-served.ensures.items c.in_ok-marks.ensures c.in_ok-channels.ensures
