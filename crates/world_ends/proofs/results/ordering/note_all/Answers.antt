use Rattle.std.proofs.Common.{◌≡◌, ◌<◌, length, arith}
use Rattle.world_ends.proofs.results.Adding.{walk_begins, walk_ends, walk_goes}
use Rattle.world_ends.proofs.results.ordering.note_all.Goals as goal

pub loop-place-init : goal.loop-place-init
loop-place-init c = walk_begins c.args.world.now c.args.orders.now.items

pub loop-place-preserved : goal.loop-place-preserved
loop-place-preserved c =
    let s = c.as_slice-served.result.now in
    let l : c.loop-place.place < length s = (let t = c.loop-place-test.true in omega (arith, t)) in
    walk_goes c.args.world.now s c.loop-place.place c.args.orders.now.items c.loop-place.orders.items c.note.new.orders.items
    c.as_slice-served.ensures.value l c.loop-place.invariant c.in_ok-note.ensures

pub returns : goal.returns
returns c =
    let s = c.as_slice-served.result.now in
    let e : c.loop-place.place ≡ length s =
    (let a = c.loop-place.auto.place-end in let t = c.loop-place-test.false in omega (arith, a, t)) in
    walk_ends c.args.world.now s c.loop-place.place c.args.orders.now.items c.loop-place.orders.items c.as_slice-served.ensures.value e
    c.loop-place.invariant
