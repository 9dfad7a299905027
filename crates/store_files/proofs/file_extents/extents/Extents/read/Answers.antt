use Rattle.std.proofs.Common.{arith}
use Rattle.store_files.proofs.file_extents.Shown.{take-next}
use Rattle.store_files.proofs.file_extents.extents.Extents.read.Goals as goal

pub loop-place-preserved : goal.loop-place-preserved
loop-place-preserved c = let i = c.loop-place.invariant in let g = c.in_ok-place.ensures.goes in (
  omega arith,
  omega arith,
  i.2,
  λ b s. take-next b _ c.read_part.new.out.items c.args.at c.loop-place.place c.in_ok-place.place i.0
      (omega arith) (i.3 b s) (c.in_ok-place.ensures.bytes b s) (let l = s.len in omega arith),
)
