use Rattle.std.proofs.Common.{◌+◌, ◌<◌, ◌≤◌, length, ap, ◌∙◌, arith}
use Rattle.run_command.specs.Listing.{receipt_orders}
use Rattle.run_command.proofs.Listed.{all_receipts, more_receipts, next, no_receipts}
use Rattle.run_command.proofs.listing.orders_of.Goals as goal

pub loop-place-init : goal.loop-place-init
loop-place-init c = record {
  within = omega arith;
  told = λ order h. c.new-orders.ensures.items ∙ no_receipts c.args.ops.now c.args.settled.now order;
}

pub add_order-requires : goal.add_order-requires
add_order-requires c = (let t = c.loop-place-test.true in let r = c.requires in omega (arith, t, r))

pub loop-place-preserved : goal.loop-place-preserved
loop-place-preserved c =
    let n = c.loop-place.place in
    let t = c.loop-place-test.true in
    let room : n + 1 < length c.args.lists.now = (let r = c.requires in omega (arith, t, r)) in
    record {
      within = omega arith;
      told = λ order h.
          more_receipts c.args.ops.now c.args.settled.now order c.args.lists.now c.loop-place.orders.items c.add_order.new.orders.items n
          c.is_ordered-ordered.result c.is_ordered-ordered.ensures room h c.in_ok-add_order.ensures (c.loop-place.invariant.told order h)
          ∙ ap (λ k. receipt_orders c.args.ops.now c.args.settled.now order k) (next n);
    }

pub returns : goal.returns
returns c = λ order h.
    let over : length c.args.ops.now ≤ c.loop-place.place = (let t = c.loop-place-test.false in omega (arith, t)) in
    all_receipts c.args.ops.now c.args.settled.now order c.loop-place.orders.items c.loop-place.place (length c.args.ops.now)
    c.loop-place.invariant.within over (c.loop-place.invariant.told order h)
