use Rattle.world_ends.proofs.results.Adding.{notes_told, on_ok}
use Rattle.world_ends.proofs.results.ordering.note.Goals as goal

pub returns : goal.returns
returns c =
    let v = c.args.world.now in
    on_ok c.put.result
    (λ p. notes_told v c.args.place c.args.number c.in_ok-told.told c.args.orders.now.items c.put.new.orders.items
    (λ z w h. c.in_ok-told.ensures z w h) p) c.put.ensures
