use Rattle.std.proofs.Common.{◌≡◌, nat_le, List, slice_get, sym, ap, ◌∙◌, true, false}
use Rattle.world_ends.proofs.results.Adding.{on_ok, puts_born, puts_unborn}
use Rattle.world_ends.specs.results.Listing.{born_in}
use Rattle.world_ends.specs.declared.world.Marks.{Marks}
use Rattle.world_ends.proofs.results.ordering.put_on.Goals as goal

pub returns-then-is_born : goal.returns-then-is_born
returns-then-is_born c =
    let v = c.args.world.now in
    let b : nat_le (born_in (slice_get v.places.marks.items c.args.create)) c.args.place ≡ true =
    ap (λ (ms : List Marks). nat_le (born_in (slice_get ms c.args.create)) c.args.place) (sym c.deref.ensures.value)
    ∙ (sym c.is_born.ensures ∙ c.if-is_born.true) in
    on_ok c.add_at.result
    (λ d. puts_born v c.args.place c.args.number c.args.create c.args.orders.now.items c.add_at.new.orders.items b d) c.add_at.ensures

pub returns : goal.returns
returns c =
    let v = c.args.world.now in
    let b : nat_le (born_in (slice_get v.places.marks.items c.args.create)) c.args.place ≡ false =
    ap (λ (ms : List Marks). nat_le (born_in (slice_get ms c.args.create)) c.args.place) (sym c.deref.ensures.value)
    ∙ (sym c.is_born.ensures ∙ c.if-is_born.false) in
    puts_unborn v c.args.place c.args.number c.args.create c.args.orders.now.items b
