use Rattle.std.proofs.Common.{◌≡◌, ◌-◌, suc, ◌∙◌, arith}
use Rattle.wire_bytes.proofs.negotiate_contexts.Walk.{one_id}
use Rattle.wire_bytes.proofs.negotiate_contexts.numbers.numbers_at.Goals as goal

pub loop-left-preserved : goal.loop-left-preserved
loop-left-preserved c =
    let left = c.loop-left.left in
    let some : left ≡ suc (left - 1) = omega arith in
    let inside = c.loop-left.invariant.1 in (
      one_id c.args.bytes.now c.loop-left.numbers c.push.new.self c.u16_at.result c.loop-left.at left (left - 1) some
          c.u16_at.ensures.value c.in_ok-push.ensures.ok ∙ c.loop-left.invariant.0,
      omega (arith, inside),
    )
