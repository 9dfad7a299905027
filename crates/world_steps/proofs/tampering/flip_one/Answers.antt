use Rattle.std.proofs.Common.{arith}
use Rattle.world_steps.proofs.Flipping.{next_flipped, past_flipped}
use Rattle.world_steps.proofs.tampering.flip_one.Goals as goal

pub returns-then-within : goal.returns-then-within
returns-then-within c = λ ms. next_flipped c.args.place c.args.m ms c.args.bytes.now _ (let t = c.if-within.true in omega arith)

pub returns-else-within : goal.returns-else-within
returns-else-within c = λ ms. past_flipped c.args.place c.args.m ms c.args.bytes.now (let t = c.if-within.false in omega arith)
