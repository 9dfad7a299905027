use Rattle.std.proofs.Common.{Bool, ◌&&◌, ap, ◌∙◌, slice_get}
use Rattle.world_ends.specs.Tests.{served_in}
use Rattle.drill_command.proofs.settling.linking.may_serve.Goals as goal

pub returns : goal.returns
returns c =
    let o = slice_get c.args.channels.now c.args.k in
    c.both.ensures
    ∙ (ap (λ (b : Bool). b && c.is_coming.result) c.is_served.ensures
    ∙ ap (λ (b : Bool). served_in o && b) c.is_coming.ensures)
