use Rattle.std.proofs.Common.{◌≡◌, ◌<◌, ℕ, List, Option, slice_get, true, false, sym, ap, subst, ◌∙◌, ◌-◌, arith}
use Rattle.spec_exchange.specs.Order.{is_at}
use Rattle.spec_exchange.specs.Runs.{account}
use Rattle.client_values.specs.declared.operations.values.OpKind.{OpKind}
use Rattle.world_ends.proofs.results.Entered.{entry_off, entry_on}
use Rattle.world_ends.specs.results.Listing.{ListingTellsOpen, on_in, placed_in}
use Rattle.world_ends.specs.declared.world.Marks.{Marks}
use Rattle.world_ends.proofs.results.entries.open_at.Goals as goal

pub returns-then-not-is_placed : goal.returns-then-not-is_placed
returns-then-not-is_placed c = λ z w h.
    let v = c.args.world.now in
    let n = c.args.place in
    let g = c.args.number in
    let off : is_at n (placed_in (slice_get v.places.marks.items g)) ≡ false =
    ap (λ (ms : List Marks). is_at n (placed_in (slice_get ms g))) (sym c.deref.ensures.value)
    ∙ (sym c.is_placed.ensures ∙ c.if-not-is_placed.true) in
    entry_off z v w g n h off

pub create_at-requires : goal.create_at-requires
create_at-requires c = record { above = (let e = c.if-number-eq0.false in omega (arith, e)) }

pub returns : goal.returns
returns c = λ z w h.
    let v = c.args.world.now in
    let n = c.args.place in
    let g = c.args.number in
    let above : 0 < g = (let e = c.if-number-eq0.false in omega (arith, e)) in
    let on : is_at n (placed_in (slice_get v.places.marks.items g)) ≡ true =
    ap (λ (ms : List Marks). is_at n (placed_in (slice_get ms g))) (sym c.deref.ensures.value)
    ∙ (sym c.is_placed.ensures ∙ c.if-not-is_placed.false) in
    let told = c.create_at.ensures ∙ ap (λ (ops : List OpKind). on_in (slice_get ops (g - 1))) c.deref-2.ensures.value in
    subst (λ (o : Option ℕ). ListingTellsOpen (account w.values) g n o) (sym told) (entry_on z v w g n h above on)
