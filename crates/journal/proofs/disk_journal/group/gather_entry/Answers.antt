use Rattle.std.proofs.Common.{List, ℕ, subst, sym}
use Rattle.journal.specs.disk_journal.Group.{IsGroup}
use Rattle.journal.proofs.disk_journal.Gathered.{one_gathered}
use Rattle.journal.proofs.disk_journal.group.gather_entry.Goals as goal

pub returns-clause-gathered : goal.returns-clause-gathered
returns-clause-gathered c = λ more is.
    one_gathered c.args.form more c.args.body.now c.reserve.new.self.items c.open_last.new.group.items c.put_behind.new.buffer.items
    (subst (λ (l : List ℕ). IsGroup c.args.form more l) (sym c.in_ok-reserve.ensures.items) is)
    c.open_last.ensures.none c.open_last.ensures.opened c.in-Ok.ensures.put
