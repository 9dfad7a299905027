use Rattle.server_effects.proofs.leaving_opens.Files.{few_on, few_off}
use Rattle.server_effects.proofs.leaving_opens.connections.last_of.Goals as goal

pub returns-then-channels_left-le1 : goal.returns-then-channels_left-le1
returns-then-channels_left-le1 c = λ s h. few_on c.channels_left.result _ c.args.session
    (c.channels_left.ensures s h) c.if-channels_left-le1.true

pub returns-else-channels_left-le1 : goal.returns-else-channels_left-le1
returns-else-channels_left-le1 c = λ s h. few_off c.channels_left.result _ c.args.session
    (c.channels_left.ensures s h) c.if-channels_left-le1.false
