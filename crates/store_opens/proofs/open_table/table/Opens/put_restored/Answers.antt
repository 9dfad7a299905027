use Rattle.store_opens.proofs.open_table.RowLemmas.{tree_kept}
use Rattle.std.proofs.Common.{◌≡◌, ◌%◌, ◌==◌, ℕ, max, sym, ap, subst, nat_eq, refl, arith, Option}
use Rattle.std.specs.HashMap.{get}
use Rattle.store_opens.specs.open_index.Keep.{SessionsCount, guids_with}
use Rattle.store_opens.specs.declared.open_table.table.Opens.{Opens}
use Rattle.store_opens.proofs.open_table.Added.{open_added, placed_new, restored_is, restore_free, count_same}
use Rattle.store_opens.proofs.open_table.table.Opens.put_restored.Goals as goal

pub returns : goal.returns
returns c = λ s p user i h free noted new.
    let t = c.args.self.now in
    let o = c.args.id in
    let w = c.args.row in
    let st = restore_free s o free in
    let n = max s.open_ids_given (o % 0x1_0000_0000) in
    let u : Opens = record t { given = c.max-self.result } in
    let given : c.max-self.result ≡ n = let k = c.max-self.ensures in let g = h.given_is in grind arith in
    restored_is c.place.new.self s w p o user n new refl
    (open_added t c.place.new.self o w n s.tree_of_open s
    (placed_new t u c.place.new.self o w n s h st
    (subst (λ (v : Option ℕ). SessionsCount (λ q. get nat_eq t.sessions q) (λ q. get nat_eq t.sessions q)
    (guids_with v w.guid)) (sym new.no_session) (count_same _ _ w.guid (λ q. refl)))
    (λ x g q. absurd (let e = new.no_session in cc)) (λ x q. absurd (let e = new.no_session in cc))
    (λ x q. absurd (let e = new.no_session in cc))
    (λ q. noted) (λ q k. k) (ap (λ (g : ℕ). record t { given = g }) given)
    c.place.ensures.rows c.place.ensures.len c.place.ensures.guids c.place.ensures.file c.place.ensures.files c.place.ensures.rest)
    (λ q. tree_kept (q == o) (get nat_eq t.rows q) w (s.tree_of_open q) new.no_session (h.trees_are q))
    c.requires.3 i h st new.no_deadline new.no_location new.no_position new.no_slots)
