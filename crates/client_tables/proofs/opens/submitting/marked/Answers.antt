use Rattle.std.proofs.Common.{true, refl}
use Rattle.client_rows.proofs.open_marks.Raised.{highest_more}
use Rattle.client_tables.proofs.opens.submitting.marked.Goals as goal

pub returns-clause-highest : goal.returns-clause-highest
returns-clause-highest c = λ o k sizes create h a b d.
    let n = c.args.number in
    let m = c.behind-marks.ensures.highest o k sizes create h a b d in
    record {
      lasts = highest_more o (λ x. true) create n c.args.marks.now.last n true h.lasts a refl refl;
      changes = m.changes;
      fills = m.fills;
      closes = m.closes;
      ends = m.ends;
      barriers = m.barriers;
    }

pub returns-clause-below : goal.returns-clause-below
returns-clause-below c = λ n b l.
    let m = c.behind-marks.ensures.below n b l in
    record { last = l; change = m.change; filled = m.filled; close = m.close; end = m.end; barrier = m.barrier }
