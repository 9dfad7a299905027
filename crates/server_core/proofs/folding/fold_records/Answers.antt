use Rattle.std.proofs.Common.{refl}
use Rattle.server_core.proofs.Sound.{folded_by, refused_in}
use Rattle.server_core.proofs.folding.fold_records.Goals as goal

pub returns-in-Ok-with_records-clause-applied : goal.returns-in-Ok-with_records-clause-applied
returns-in-Ok-with_records-clause-applied c = λ s i h. (
  refl,
  folded_by c.args.state.now c.with_records.new.self s c.args.body.now c.in-Ok.records c.as_slice.result.now h c.in-Ok.ensures.read
      c.as_slice.ensures (c.in-Ok-with_records.ensures s i h),
)

pub returns-clause-applied : goal.returns-clause-applied
returns-clause-applied c = λ s i h. refused_in c.args.state.now s c.args.body.now c.in-Err.error h c.in-Err.ensures.read
