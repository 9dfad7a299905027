use Rattle.world_steps.proofs.Refusing.{result_with}
use Rattle.world_steps.proofs.dialogs.joining.join_by.Goals as goal

pub returns-in-Ok : goal.returns-in-Ok
returns-in-Ok c = result_with c.end_by.result (λ u ends. record {
  behind = c.join_of.new.dialog;
  line = c.in-Ok.joined.line;
  session = c.in-Ok.joined.session;
  tree = c.in-Ok.joined.tree;
  hears = c.in-Ok.ensures;
  ends = ends;
}) c.end_by.ensures
