use Rattle.std.proofs.Common.{Bool, ◌&&◌, not, ap, ◌∙◌, slice_get}
use Rattle.world_ends.specs.Tests.{opened_in, served_in}
use Rattle.drill_command.proofs.settling.linking.is_linking.Goals as goal

pub returns : goal.returns
returns c =
    let o = slice_get c.args.channels.now c.args.k in
    c.both.ensures
    ∙ (ap (λ (b : Bool). b && not c.is_ready.result)
    (c.both-open.ensures
    ∙ (ap (λ (b : Bool). b && c.is_served.result) c.is_open.ensures ∙ ap (λ (b : Bool). opened_in o && b) c.is_served.ensures))
    ∙ ap (λ (b : Bool). (opened_in o && served_in o) && not b) c.is_ready.ensures)
