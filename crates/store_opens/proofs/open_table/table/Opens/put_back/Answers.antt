use Rattle.std.proofs.Common.{◌≡◌, ℕ, true, sym, ap, subst}
use Rattle.spec_exchange.specs.Opens.{file_has_open}
use Rattle.store_opens.proofs.open_table.Back.{open_back, file_opened, ranges_back, unranged, placed_back}
use Rattle.store_opens.proofs.open_table.table.Opens.put_back.Goals as goal
use Rattle.spec_exchange.specs.State as model

pub returns : goal.returns
unfolding file_has_open
returns c = λ s i h st free waits t.
    let o = c.args.taken.id in
    let row = c.args.taken.row in
    let e = ap (λ (w : model.Open). w.file) t.row_is.1.opened_is in
    ranges_back c.put_ranges.new.self s o row.file _ (sym e) t.ranges_are
    (c.put_ranges.ensures.shown (unranged s o)
    (open_back c.args.self.now c.index_again.new.self o row s
    (placed_back c.args.self.now c.place.new.self c.index_again.new.self o row s h c.place.ensures.rows
    c.place.ensures.len c.place.ensures.guids c.place.ensures.file c.place.ensures.files c.place.ensures.rest
    c.index_again.ensures.whole c.index_again.ensures.kept c.index_again.ensures.here c.index_again.ensures.rest)
    c.requires.3 i h st free waits t.row_is)
    (subst (λ (z : ℕ). file_has_open s z ≡ true) e (file_opened s o i st)))
