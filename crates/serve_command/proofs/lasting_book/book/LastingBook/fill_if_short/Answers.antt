use Rattle.std.proofs.Common.{refl, sym, ap, ℕ, true, false, ◌∙◌}
use Rattle.serve_command.specs.Renewing.{is_short}
use Rattle.serve_command.proofs.SpaceAhead.{filled_where}
use Rattle.serve_command.proofs.lasting_book.book.LastingBook.fill_if_short.Goals as goal

pub returns-then-short : goal.returns-then-short
returns-then-short g c = filled_where g.D.Disk.told g.D.Disk.seen g.D.Disk.may_leave g.D.Disk.faults true c.args.self.now c.fill.new.self
    (sym c.if-short.true
    ∙ (c.is_short-short.ensures ∙ ap (λ (n : ℕ). is_short n c.args.self.now.ahead) c.used-used.ensures)) c.fill.ensures

pub returns-else-short : goal.returns-else-short
returns-else-short g c = filled_where g.D.Disk.told g.D.Disk.seen g.D.Disk.may_leave g.D.Disk.faults false c.args.self.now c.args.self.now
    (sym c.if-short.false
    ∙ (c.is_short-short.ensures ∙ ap (λ (n : ℕ). is_short n c.args.self.now.ahead) c.used-used.ensures)) refl
