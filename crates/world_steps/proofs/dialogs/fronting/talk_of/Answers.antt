use Rattle.std.proofs.Common.{List, ◌∷◌, sym, ap, ◌∙◌}
use Rattle.world_ends.specs.declared.sides.Down.{Down}
use Rattle.world_steps.proofs.Refusing.{result_with}
use Rattle.world_steps.proofs.dialogs.fronting.talk_of.Goals as goal

pub returns-in-Some : goal.returns-in-Some
returns-in-Some c = result_with c.with_frame.result (λ t h. record {
  client = h.0.0;
  front = c.in-Some.down;
  down = c.in-Some.ensures.items ∙ ap (λ (v : List Down). c.in-Some.down ∷ v) (sym h.4);
  frame = sym h.1;
  closed = h.0.1;
  server = h.2;
  up = h.3;
}) c.with_frame.ensures
