use Rattle.std.proofs.Common.{List, [], ◌∷◌, ◌++◌, ap, ◌∙◌}
use Rattle.world_ends.specs.Places.{no_marks}
use Rattle.world_ends.specs.declared.world.Marks.{Marks}
use Rattle.world_steps.proofs.beginning.beginning.no_marks.Goals as goal

pub returns : goal.returns
returns c = c.in_ok-push.ensures.items ∙ ap (λ (v : List Marks). v ++ no_marks ∷ []) c.in_ok-marks.ensures.items
