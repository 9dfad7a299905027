use Rattle.std.proofs.Common.{Bool, ◌&&◌, not, ap, ◌∙◌, slice_get}
use Rattle.world_ends.specs.Tests.{opened_in}
use Rattle.drill_command.proofs.settling.settling.is_apart.Goals as goal

pub returns : goal.returns
returns c =
    let o = slice_get c.args.channels.now c.args.k in
    c.both.ensures
    ∙ (ap (λ (b : Bool). not b && not c.is_served.result) c.is_open.ensures
    ∙ ap (λ (b : Bool). not (opened_in o) && not b) c.is_served.ensures)
