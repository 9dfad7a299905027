use Rattle.std.proofs.Common.{◌≡◌, ℕ, List, None, MatchResult, subst, ap, ◌∙◌}
use Rattle.spec_exchange.specs.State as model
use Rattle.spec_exchange.specs.Ranges.{may_write}
use Rattle.store_opens.specs.share_modes.Locking.{write_conflict, IsConflict}
use Rattle.store_opens.specs.open_table.Locks.{held_of, held_by}
use Rattle.store_opens.proofs.open_table.LockLemmas.{held_of_open, read_answer}
use Rattle.store_opens.proofs.open_table.table.Opens.may_write.Goals as goal

pub returns-clause-range : goal.returns-clause-range
returns-clause-range c =
    subst (λ (f : ℕ). MatchResult c.may_write_in.result (λ _. write_conflict (held_of c.args.self.now f) c.args.id
    c.args.at c.args.length ≡ None)
    (λ e. IsConflict e (write_conflict (held_of c.args.self.now f) c.args.id c.args.at c.args.length)))
    c.file_of.ensures.kept c.may_write_in.ensures

pub returns-clause-shown : goal.returns-clause-shown
returns-clause-shown c = λ s h st. read_answer c.may_write_in.result (write_conflict (held_by c.args.self.now c.args.id)
    c.args.id c.args.at c.args.length) _
    (ap (λ (v : List model.Range). may_write v c.args.id c.args.at c.args.length)
    (held_of_open c.args.self.now s c.args.id h st) ∙ c.ranges_law.ensures.writes
    (held_by c.args.self.now c.args.id) c.args.id c.args.at c.args.length)
    (subst (λ (f : ℕ). MatchResult c.may_write_in.result (λ _. write_conflict (held_of c.args.self.now f) c.args.id
    c.args.at c.args.length ≡ None)
    (λ e. IsConflict e (write_conflict (held_of c.args.self.now f) c.args.id c.args.at c.args.length)))
    c.file_of.ensures.kept c.may_write_in.ensures)
