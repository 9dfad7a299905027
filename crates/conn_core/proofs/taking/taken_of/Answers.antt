use Rattle.std.proofs.Common.{◌∙◌, Bool, Some, if◌then◌else◌, refl, ap}
use Rattle.spec_exchange.specs.Status.{no_memory}
use Rattle.conn_core.proofs.taking.taken_of.Goals as goal

pub returns : goal.returns
returns c = (
  c.from_vec.ensures,
  c.status_by.ensures ∙ ap (λ (b : Bool). if b then Some no_memory else c.args.answered.status) c.lacked-lacked.ensures,
  c.acted.ensures,
  refl,
  c.lacked-lacked.ensures,
)
