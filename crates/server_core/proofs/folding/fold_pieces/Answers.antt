use Rattle.std.proofs.Common.{refl}
use Rattle.server_core.proofs.ReadOver.{pieced}
use Rattle.server_core.proofs.folding.fold_pieces.Goals as goal

pub returns-in-Ok-true-clause-applied : goal.returns-in-Ok-true-clause-applied
returns-in-Ok-true-clause-applied c = λ s i h. (
  refl,
  pieced c.piece_fits_law.ensures.fits c.with_pieces.new.self s c.args.body.now c.as_slice.result.now c.args.behind
      c.in-Ok-true.field-0 c.in-Ok.pieces c.as_slice-in-Ok.result.now i c.if-behind.false c.as_slice.ensures c.as_slice-in-Ok.ensures
      c.in-Ok-true.field-0-test c.in-Ok.ensures (c.in-Ok-true.ensures s i h),
)
