use Rattle.std.proofs.Common.{map, sym, ◌∙◌}
use Rattle.spec_exchange.specs.CheckOpen.{file_of}
use Rattle.store_opens.specs.share_modes.Locking.{range_of}
use Rattle.server_checks.proofs.Locks.{locked, unlocked}
use Rattle.server_checks.proofs.tables.Tables.ranges_behind.Goals as goal

pub returns-then-all_lock : goal.returns-then-all_lock
returns-then-all_lock c = λ s t st f a e. locked c.after_lock.result (λ v. map range_of v.items)
    (s.ranges (file_of s c.args.id)) c.args.id c.args.elements.now (map range_of c.args.wanted.now)
    (sym c.all_lock.ensures ∙ c.if-all_lock.true) e (c.after_lock.ensures.shown s t.opens st f a)

pub returns : goal.returns
returns c = λ s t st f a e. unlocked c.after_unlock.result (λ v. map range_of v.items)
    (s.ranges (file_of s c.args.id)) c.args.id c.args.elements.now (map range_of c.args.wanted.now)
    (sym c.all_lock.ensures ∙ c.if-all_lock.false) e (c.after_unlock.ensures.shown s t.opens st f a)
