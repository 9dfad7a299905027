use Rattle.std.proofs.Common.{◌≡◌, length, arith}
use Rattle.std.proofs.lemmas.Grind.{common_steps}
use Rattle.world_ends.proofs.results.Adding.{all_orders}
use Rattle.world_ends.proofs.results.ordering.orders.Goals as goal

pub returns : goal.returns
returns c =
    let e : c.len.result ≡ length c.args.world.now.places.marks.items = grind (arith, common_steps) in
    λ z w h. all_orders c.args.world.now c.len.result c.in_ok-orders.orders.items c.note_all.new.orders.items e c.in_ok-orders.ensures
    c.in_ok-note_all.ensures z w h
