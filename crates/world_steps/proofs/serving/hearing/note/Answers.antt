use Rattle.std.proofs.Common.{refl, ◌∙◌}
use Rattle.world_steps.proofs.serving.hearing.note.Goals as goal

pub returns-in-Ok : goal.returns-in-Ok
returns-in-Ok c = record {
  noted = c.in-Ok.ensures;
  conn_is = refl;
  place = c.len-place.ensures ∙ c.args.places.now.served.ok.0;
  answer = refl;
}
