use Rattle.std.proofs.Common.{◌≡◌, ◌==◌, ℕ, sym, ap, subst, refl, nat_eq, Option}
use Rattle.std.specs.HashMap.{get}
use Rattle.store_opens.specs.open_index.Keep.{SessionsCount, guids_with}
use Rattle.store_opens.proofs.open_table.RowLemmas.{tree_kept}
use Rattle.store_opens.proofs.open_table.Added.{open_added, placed_new, count_same}
use Rattle.store_opens.proofs.open_table.StoodLemmas.{stood_is}
use Rattle.store_opens.proofs.open_table.table.Opens.put_stood.Goals as goal

pub returns : goal.returns
returns c = λ s p user i h st noted new.
    let t = c.args.self.now in
    let o = c.args.id in
    let w = c.args.row in
    stood_is c.place.new.self s w p o user new
    (open_added t c.place.new.self o w s.open_ids_given s.tree_of_open s
    (placed_new t t c.place.new.self o w s.open_ids_given s h st
    (subst (λ (v : Option ℕ). SessionsCount (λ q. get nat_eq t.sessions q) (λ q. get nat_eq t.sessions q)
    (guids_with v w.guid)) (sym new.no_session) (count_same _ _ w.guid (λ q. refl)))
    (λ x g q. absurd (let e = new.no_session in cc)) (λ x q. absurd (let e = new.no_session in cc))
    (λ x q. absurd (let e = new.no_session in cc))
    (λ q. noted) (λ q k. k) (ap (λ (g : ℕ). record t { given = g }) (sym h.given_is))
    c.place.ensures.rows c.place.ensures.len c.place.ensures.guids c.place.ensures.file c.place.ensures.files c.place.ensures.rest)
    (λ q. tree_kept (q == o) (get nat_eq t.rows q) w (s.tree_of_open q) new.no_session (h.trees_are q))
    c.requires.3 i h st new.no_deadline new.no_location new.no_position new.no_slots)
