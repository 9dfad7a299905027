use Rattle.std.proofs.Common.{◌≡◌, Option, None, MatchResult, subst}
use Rattle.store_opens.specs.share_modes.Locking.{write_conflict, IsConflict}
use Rattle.store_opens.specs.declared.open_index.held.FileOpens.{FileOpens}
use Rattle.store_opens.specs.open_table.Locks.{ranges_in}
use Rattle.store_opens.proofs.open_table.table.Opens.may_write_in.Goals as goal

pub returns-in-Some : goal.returns-in-Some
returns-in-Some c = subst (λ (v : Option FileOpens). MatchResult c.may_write.result
    (λ _. write_conflict (ranges_in v) c.args.id c.args.at c.args.length ≡ None)
    (λ e. IsConflict e (write_conflict (ranges_in v) c.args.id c.args.at c.args.length)))
    c.in-Some.ensures.value c.may_write.ensures
