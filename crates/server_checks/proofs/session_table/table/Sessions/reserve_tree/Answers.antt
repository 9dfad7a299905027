use Rattle.std.proofs.Common.{ℕ, nat_eq, refl}
use Rattle.std.specs.HashMap.{get}
use Rattle.server_checks.proofs.session_table.Kept.{stays_at, shows_same}
use Rattle.server_checks.proofs.session_table.table.Sessions.reserve_tree.Goals as goal

pub returns-clause-same : goal.returns-clause-same
returns-clause-same c = λ s h.
    let t = c.args.self.now in
    shows_same t (record t { rows = c.grow_trees.new.rows })
    (record {
      epoch = refl;
      given = refl;
      len = c.grow_trees.ensures.len;
      rows = stays_at (λ (q : ℕ). get nat_eq t.rows q) (λ (q : ℕ). get nat_eq c.grow_trees.new.rows q) c.args.session
          c.grow_trees.ensures.others c.grow_trees.ensures.here;
      order = refl;
      links = λ q. refl;
    }) s h
