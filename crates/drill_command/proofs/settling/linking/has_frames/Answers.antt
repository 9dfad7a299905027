use Rattle.std.proofs.Common.{Bool, true, ◌||◌, ap, ◌∙◌, slice_get}
use Rattle.world_steps.specs.Changes.{coming_in}
use Rattle.drill_command.proofs.settling.linking.has_frames.Goals as goal

pub returns : goal.returns
returns c =
    let o = slice_get c.args.channels.now c.args.k in
    c.either.ensures
    ∙ (ap (λ (b : Bool). b || c.is_coming-2.result) c.is_coming.ensures
    ∙ ap (λ (b : Bool). coming_in true o || b) c.is_coming-2.ensures)
