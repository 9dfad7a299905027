use Rattle.std.proofs.Common.{arith}
use Rattle.wire_bytes.proofs.frames.Gathering.{added}
use Rattle.wire_bytes.proofs.frames.deframer.Deframer.add.Goals as goal

pub returns-in-Ok-clause-ok : goal.returns-in-Ok-clause-ok
returns-in-Ok-clause-ok c =
    added c.self.inside.head.items c.self.inside.long.items c.extend_from_slice.new.self.items c.self.inside.bytes.items
    c.extend_from_slice-2.new.self.items c.args.piece.now c.args.self.now c.self.inside.missing c.self.inside.at c.min-own.result
    c.self.invariant c.self.view_is (let few = c.min-own.ensures in omega (arith, few)) c.in_ok-extend_from_slice.ensures.items c.in-Ok.ensures.items
