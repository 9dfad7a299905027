use Rattle.std.proofs.Common.{◌+◌, ◌≤◌, length, subst, sym, arith, MatchOption}
use Rattle.spec_wire.specs.messages.Compound.{AreJoined, IsJoined, IsLast}
use Rattle.wire_bytes.proofs.headers.Chain.{joined_more}
use Rattle.wire_bytes.proofs.headers.compound.split_compound.Goals as goal

pub loop-end-preserved : goal.loop-end-preserved
loop-end-preserved c =
    let frame = c.args.frame.now in
    let at = c.loop-end.at in
    let joins =
    subst (λ o. MatchOption o (IsLast frame (record { start = at; end = length frame }))
    (λ next. IsJoined frame (record { start = at; end = next }) × (at + 64 ≤ next) × (next + 64 ≤ length frame)))
    c.in-Ok-Some.field-0-is c.in-Ok-Some.ensures in
    let joined = joined_more frame 0 at c.loop-end.parts c.in-Ok-Some.end c.loop-end.invariant.0 joins.0 in
    let inside = joins.2 in
    (subst (λ parts. AreJoined frame 0 parts c.in-Ok-Some.end) (sym c.in_ok-push-in-Ok-Some.ensures.ok) joined, omega arith)
