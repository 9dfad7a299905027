use Rattle.std.proofs.Common.{Bool, ◌&&◌, not, ap, ◌∙◌, slice_get}
use Rattle.world_ends.specs.Tests.{opened_in}
use Rattle.drill_command.proofs.settling.settling.is_alone.Goals as goal

pub returns : goal.returns
returns c =
    let o = slice_get c.args.channels.now c.args.k in
    c.both.ensures
    ∙ (ap (λ (b : Bool). b && not c.is_served.result) c.is_open.ensures
    ∙ ap (λ (b : Bool). opened_in o && not b) c.is_served.ensures)
