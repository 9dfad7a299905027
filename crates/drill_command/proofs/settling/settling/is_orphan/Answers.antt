use Rattle.std.proofs.Common.{Bool, ◌&&◌, not, ap, ◌∙◌, slice_get}
use Rattle.world_ends.specs.Tests.{served_in}
use Rattle.drill_command.proofs.settling.settling.is_orphan.Goals as goal

pub returns : goal.returns
returns c =
    let o = slice_get c.args.channels.now c.args.k in
    c.both.ensures
    ∙ (ap (λ (b : Bool). b && not c.is_open.result) c.is_served.ensures
    ∙ ap (λ (b : Bool). served_in o && not b) c.is_open.ensures)
