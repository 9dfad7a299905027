use Rattle.std.proofs.Common.{List, ℕ, sym, ◌∙◌, subst}
use Rattle.base_outside.specs.streams.Disk.{Only}
use Rattle.journal.proofs.disk_journal.Mend.{cut, kept, cut_done}
use Rattle.journal.proofs.disk_journal.entry.cut_behind.Goals as goal

pub returns-in_err-cut-clause-any_moment : goal.returns-in_err-cut-clause-any_moment
returns-in_err-cut-clause-any_moment g c = λ told front rest shut at_gate only.
    cut g.D.Disk.seen g.D.Disk.may_leave g.D.Disk.moment g.D.Disk.left_since g.met.D.Disk.only_now front rest
    c.args.gate shut c.args.disk.now at_gate only
    c.cut.new.self c.cut.ensures.crash c.cut.ensures.time

pub returns-in_err-sync-clause-any_moment : goal.returns-in_err-sync-clause-any_moment
returns-in_err-sync-clause-any_moment g c = λ told front rest shut at_gate only.
    kept g.D.Disk.seen g.D.Disk.may_leave g.D.Disk.moment g.D.Disk.left_since g.met.D.Disk.only_now front rest
    c.args.gate shut c.args.disk.now at_gate only
    c.cut.new.self c.cut.ensures.crash c.cut.ensures.time c.sync.new.self c.sync.ensures.crash c.sync.ensures.time

pub returns-clause-any_moment : goal.returns-clause-any_moment
returns-clause-any_moment g c = λ told front rest shut at_gate only.
    kept g.D.Disk.seen g.D.Disk.may_leave g.D.Disk.moment g.D.Disk.left_since g.met.D.Disk.only_now front rest
    c.args.gate shut c.args.disk.now at_gate only
    c.cut.new.self c.cut.ensures.crash c.cut.ensures.time c.sync.new.self c.sync.ensures.crash c.sync.ensures.time

pub returns-clause-done : goal.returns-clause-done
returns-clause-done g c = λ told front rest shut at_gate only. (
  c.sync.ensures.seen told ∙ c.in_ok-cut.ensures.cut told ∙ cut_done front rest c.args.gate shut (g.D.Disk.seen c.args.disk.now) at_gate,
  subst (λ (f : List ℕ). Only f (g.D.Disk.may_leave c.sync.new.self)) (sym (c.sync.ensures.seen told)) (c.in_ok-sync.ensures.durable told),
)
