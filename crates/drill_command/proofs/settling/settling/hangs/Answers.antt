use Rattle.std.proofs.Common.{Bool, ◌&&◌, ◌||◌, not, ap, ◌∙◌, slice_get}
use Rattle.world_ends.specs.Tests.{opened_in, served_in}
use Rattle.drill_command.proofs.settling.settling.hangs.Goals as goal

pub returns : goal.returns
returns c =
    let o = slice_get c.args.channels.now c.args.k in
    c.both.ensures
    ∙ (ap (λ (b : Bool). b && c.either-unended.result) c.is_open.ensures
    ∙ ap (λ (b : Bool). opened_in o && b)
    (c.either-unended.ensures
    ∙ (ap (λ (b : Bool). not b || c.talks.result) c.is_served.ensures ∙ ap (λ (b : Bool). not (served_in o) || b) c.talks.ensures)))
