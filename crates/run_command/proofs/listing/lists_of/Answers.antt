use Rattle.std.proofs.Common.{◌+◌, ◌<◌, ◌≤◌, length, refl, arith}
use Rattle.run_command.proofs.Listed.{all_listed, begun, goes_on}
use Rattle.run_command.proofs.listing.lists_of.Goals as goal

pub loop-place-init : goal.loop-place-init
loop-place-init c =
    let ops = c.args.ops.now in
    begun ops c.args.order.now _ _ c.in_ok-lists.lists.items refl (c.in_ok-lists.ensures ops)

pub loop-place-preserved : goal.loop-place-preserved
loop-place-preserved c =
    let s = c.args.order.now in
    let l : c.loop-place.place < length s = (let t = c.loop-place-test.true in omega (arith, t)) in
    goes_on c.args.ops.now s c.loop-place.place (length c.args.ops.now + 1) c.loop-place.lists.items c.add.new.lists.items l
    c.loop-place.invariant c.in_ok-add.ensures

pub returns : goal.returns
returns c =
    let s = c.args.order.now in
    let l : length s ≤ c.loop-place.place =
    (let a = c.loop-place.auto.place-end in let t = c.loop-place-test.false in omega (arith, a, t)) in
    all_listed c.args.ops.now s c.loop-place.place (length c.args.ops.now + 1) c.loop-place.lists.items l c.loop-place.invariant
