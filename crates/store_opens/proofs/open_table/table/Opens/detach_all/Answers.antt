use Rattle.std.proofs.Common.{◌≡◌, ℕ, ◌∷◌, List, Option, if◌then◌else◌, nat_eq, ap, subst, ◌∙◌}
use Rattle.std.specs.HashMap.{get}
use Rattle.std.proofs.lemmas.Map.Iter.{rest_more}
use Rattle.spec_exchange.specs.Table.{has}
use Rattle.store_opens.specs.declared.open_table.row.Row.{Row}
use Rattle.store_opens.specs.declared.open_table.table.Opens.{Opens}
use Rattle.store_opens.specs.open_table.Rows.{detached_row}
use Rattle.store_opens.proofs.open_table.RowLemmas.{one_less, detached_twice}
use Rattle.store_opens.proofs.open_table.Moved.{index_then}
use Rattle.store_opens.proofs.open_table.table.Opens.detach_all.Goals as goal

pub loop-id-preserved : goal.loop-id-preserved
loop-id-preserved c =
    let e : c.loop-id.id-iterator ≡ c.in-Some.id.now ∷ c.next.new.self = rest_more (λ x. x.now) _ _ _ _ c.in-Some.is c.next.ensures.steps in
    let f = detached_row c.args.session c.args.now in
    let old = c.loop-id.self in
    let all : ℕ → Option Row = λ q. if has q c.args.opens.now.keys then f (get nat_eq c.args.self.now.rows q) else get
    nat_eq c.args.self.now.rows q in
    record {
      rows = λ q. one_less f (detached_twice c.args.session c.args.now) q c.in-Some.id.now c.next.new.self
          (get nat_eq old.rows q) (get nat_eq c.detach_one.new.self.rows q) (all q) (c.detach_one.ensures.rows q)
          (subst (λ (xs : List ℕ). (if has q xs then f (get nat_eq old.rows q) else get nat_eq old.rows q) ≡ all q) e
          (c.loop-id.invariant.rows q));
      len = c.detach_one.ensures.len ∙ c.loop-id.invariant.len;
      indexed = index_then _ _ _ _ _ _ c.loop-id.invariant.indexed c.detach_one.ensures.indexed;
      rest = c.detach_one.ensures.rest ∙ ap (λ (w : Opens). record w {
        rows = c.detach_one.new.self.rows;
        deadlines = c.detach_one.new.self.deadlines;
      }) c.loop-id.invariant.rest;
    }
