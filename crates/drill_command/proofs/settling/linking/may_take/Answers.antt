use Rattle.std.proofs.Common.{Bool, ◌&&◌, ap, ◌∙◌, slice_get}
use Rattle.world_ends.specs.Tests.{opened_in}
use Rattle.drill_command.proofs.settling.linking.may_take.Goals as goal

pub returns : goal.returns
returns c =
    let o = slice_get c.args.channels.now c.args.k in
    c.both.ensures
    ∙ (ap (λ (b : Bool). b && c.is_coming.result) c.is_open.ensures
    ∙ ap (λ (b : Bool). opened_in o && b) c.is_coming.ensures)
