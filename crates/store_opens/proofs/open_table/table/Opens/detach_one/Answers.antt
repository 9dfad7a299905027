use Rattle.std.proofs.Common.{◌≡◌, ℕ, Some, None, true, nat_eq, subst}
use Rattle.std.specs.HashMap.{get}
use Rattle.store_opens.specs.open_index.Index.{indexes}
use Rattle.store_opens.specs.open_table.Rows.{detached_row}
use Rattle.store_opens.proofs.open_table.Moved.{grows_told, some_same}
use Rattle.store_opens.proofs.open_table.table.Opens.detach_one.Goals as goal

pub returns-in-Some-clause-indexed : goal.returns-in-Some-clause-indexed
returns-in-Some-clause-indexed c = grows_told (λ q. get nat_eq c.args.self.now.rows q)
    (λ q. get nat_eq c.detach_row.new.rows q) c.args.id (detached_row c.args.session c.args.now)
    (Some c.in-Some.deadline) _ _ c.add.ensures.whole c.add.ensures.others
    (λ d w e. subst (λ (z : ℕ). indexes c.add.new.self z c.args.id ≡ true) (some_same _ _ e) (c.add.ensures.here w))
    c.in-Some.ensures.told c.detach_row.ensures.rows

pub returns-in_default-clause-indexed : goal.returns-in_default-clause-indexed
returns-in_default-clause-indexed c = grows_told (λ q. get nat_eq c.args.self.now.rows q)
    (λ q. get nat_eq c.detach_row.new.rows q) c.args.id (detached_row c.args.session c.args.now) None _ _ (λ w. w)
    (λ o d h. h)
    (λ d w e. absurd (cc)) c.in_default.ensures.told c.detach_row.ensures.rows
