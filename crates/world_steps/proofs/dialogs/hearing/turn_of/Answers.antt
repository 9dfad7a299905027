use Rattle.std.proofs.Common.{List, ℕ, refl, subst}
use Rattle.client_ends.specs.dialog_calls.Turning.{DialogHears}
use Rattle.world_steps.proofs.dialogs.hearing.turn_of.Goals as goal

pub returns-in-Ok : goal.returns-in-Ok
returns-in-Ok c = record {
  hears = λ n s. subst
      (λ (m : List ℕ). DialogHears n.stage c.args.talk.dialog n m c.args.number c.hear_frame.new.dialog c.in-Ok.heard)
      c.as_slice.ensures.value (c.in-Ok.ensures n s);
  rest = refl;
}
