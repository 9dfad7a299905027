use Rattle.std.proofs.Common.{◌∙◌, refl}
use Rattle.std.specs.BTreeMap.{is_at}
use Rattle.std.specs.BTreeSet.{contains}
use Rattle.std.specs.Ordering.{nat_cmp}
use Rattle.server_core.proofs.durable_state.Choice.{clash}
use Rattle.server_core.proofs.durable_state.Keys.{by_cond}
use Rattle.server_core.proofs.durable_state.durable.Durable.note.Goals as goal

pub returns-then-not-marked : goal.returns-then-not-marked
returns-then-not-marked c = record { rest = refl; before = λ f h. h; noted = λ m. absurd (clash c.args.marked c.if-not-marked.true m) }

pub returns-in-Ok : goal.returns-in-Ok
returns-in-Ok c = record {
  rest = refl;
  before = λ f h. c.in-Ok.ensures.updates.0 f ∙ by_cond (is_at (nat_cmp c.args.file) f) (contains nat_cmp c.args.self.now.pending f) h;
  noted = λ m. c.in-Ok.ensures.updates.1;
}
