use Rattle.std.proofs.Common.{ℕ, false, Option, nat_eq, refl, sym, ap, ◌∙◌}
use Rattle.std.specs.HashMap.{HashMap, get}
use Rattle.spec_exchange.specs.Table.{has}
use Rattle.store_opens.specs.declared.open_index.keep.SessionOpens.{SessionOpens}
use Rattle.store_opens.specs.open_index.Keep.{keep_lists}
use Rattle.store_opens.proofs.open_index.SetLemmas.{contains_has}
use Rattle.store_opens.specs.declared.open_table.table.Opens.{Opens}
use Rattle.store_opens.proofs.open_table.Keys.{number_put}
use Rattle.store_opens.proofs.open_table.Moved.{shows_detached, index_same}
use Rattle.store_opens.proofs.open_table.table.Opens.detach.Goals as goal

pub returns-in-Some : goal.returns-in-Some
returns-in-Some c = λ s i h none.
    shows_detached c.args.self.now c.detach_all.new.self s c.args.session c.args.now (λ q. has q c.in-Some.row.opens.keys) h i none
    (λ q. ap (λ (r : Option SessionOpens). keep_lists r q) (sym c.in-Some.ensures.value) ∙ contains_has q c.in-Some.row.opens.keys)
    c.detach_all.ensures.rows c.detach_all.ensures.len c.detach_all.ensures.indexed
    (λ q. ap (λ (w : Opens). get nat_eq w.sessions q) c.detach_all.ensures.rest ∙ c.remove.ensures.updates.0 q
    ∙ number_put c.args.session q _ _)
    (let e = c.detach_all.ensures.rest in
    let same = ap (λ (w : Opens). w.sessions) e in
    e ∙ ap (λ (m : HashMap ℕ SessionOpens _). record c.args.self.now {
      rows = c.detach_all.new.self.rows;
      sessions = m;
      deadlines = c.detach_all.new.self.deadlines;
    }) (sym same))

pub returns-in_default : goal.returns-in_default
returns-in_default c = λ s i h none.
    shows_detached c.args.self.now (record c.args.self.now { sessions = c.remove.new.self }) s c.args.session c.args.now
    (λ q. false) h i none
    (λ q. ap (λ (r : Option SessionOpens). keep_lists r q) (sym c.in_default.ensures.value))
    (λ q. refl) refl (index_same _ _) (λ q. c.remove.ensures.updates.0 q ∙ number_put c.args.session q _ _) refl
