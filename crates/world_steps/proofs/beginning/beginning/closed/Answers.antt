use Rattle.std.proofs.Common.{◌≡◌, ℕ, ◌+◌, List, sym, subst, arith}
use Rattle.world_ends.specs.declared.sides.Channel.{Channel}
use Rattle.world_steps.specs.beginning.Starting.{AreClosed}
use Rattle.world_steps.proofs.beginning.Begun.{none_closed, one_closed}
use Rattle.world_steps.proofs.beginning.beginning.closed.Goals as goal

pub loop-count-init : goal.loop-count-init
loop-count-init c = (omega arith, subst (λ (v : List Channel). AreClosed 0 v) (sym c.in_ok-channels.ensures.items) none_closed)

pub loop-count-preserved : goal.loop-count-preserved
loop-count-preserved c =
    let below = c.loop-count-test.true in
    let new = c.new.ensures in (
      omega (arith, below),
      subst (λ (v : List Channel). AreClosed (c.loop-count.count + 1) v) (sym c.in_ok-push.ensures.items)
          (one_closed c.loop-count.count c.loop-count.channels.items c.new.result
          (record { client = new.ends.0; server = new.ends.1; up = new.lists.0; down = new.lists.1 }) c.loop-count.invariant.1),
    )

pub returns : goal.returns
returns c =
    let within = c.loop-count.invariant.0 in
    let past = c.loop-count-test.false in
    let all : c.loop-count.count ≡ 256 = omega (arith, within, past) in
    subst (λ (n : ℕ). AreClosed n c.loop-count.channels.items) all c.loop-count.invariant.1
