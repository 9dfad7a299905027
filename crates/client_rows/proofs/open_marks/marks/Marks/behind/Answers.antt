use Rattle.std.proofs.Common.{◌==◌, ◌&&◌, not, true, refl, sym, ap, ◌∙◌}
use Rattle.client_values.specs.operations.Waiting.{is_close_kind}
use Rattle.client_rows.specs.operation_rows.Holding.{is_holding_changing}
use Rattle.client_rows.specs.open_marks.Marks.{fills_by_shape, is_barrier, is_mark_end, is_mark_write}
use Rattle.client_rows.proofs.open_marks.Lower.{raised_below}
use Rattle.client_rows.proofs.open_marks.Raised.{highest_more}
use Rattle.client_rows.proofs.open_marks.marks.Marks.behind.Goals as goal

pub returns-clause-highest : goal.returns-clause-highest
returns-clause-highest c = λ o k sizes create h a b d.
    let m = c.args.self.now in
    let n = c.args.number in
    record {
      lasts = highest_more o (λ x. true) create n m.last n true h.lasts a refl refl;
      changes = highest_more o (λ x. is_holding_changing (k x)) create n m.change c.raised-change.result c.changes.result h.changes a
          (ap (λ z. is_holding_changing z) b ∙ sym c.changes.ensures) c.raised-change.ensures;
      fills = highest_more o (λ x. fills_by_shape k sizes x) create n m.filled c.raised-filled.result c.fills.result h.fills a
          ((λ t. is_mark_write (b t) && not ((d t) == 0)) ∙ sym c.fills.ensures) c.raised-filled.ensures;
      closes = highest_more o (λ x. is_close_kind (k x)) create n m.close c.raised-close.result c.closes.result h.closes a
          (ap (λ z. is_close_kind z) b ∙ sym c.closes.ensures) c.raised-close.ensures;
      ends = highest_more o (λ x. is_mark_end (k x)) create n m.end c.raised-end.result c.ends.result h.ends a
          (ap (λ z. is_mark_end z) b ∙ sym c.ends.ensures) c.raised-end.ensures;
      barriers = highest_more o (λ x. is_barrier (k x)) create n m.barrier c.raised-barrier.result c.bars.result h.barriers a
          (ap (λ z. is_barrier z) b ∙ sym c.bars.ensures) c.raised-barrier.ensures;
    }

pub returns-clause-below : goal.returns-clause-below
returns-clause-below c = λ n b l.
    let m = c.args.self.now in
    let x = c.args.number in
    record {
      last = l;
      change = raised_below c.changes.result x m.change c.raised-change.result n c.raised-change.ensures l b.change;
      filled = raised_below c.fills.result x m.filled c.raised-filled.result n c.raised-filled.ensures l b.filled;
      close = raised_below c.closes.result x m.close c.raised-close.result n c.raised-close.ensures l b.close;
      end = raised_below c.ends.result x m.end c.raised-end.result n c.raised-end.ensures l b.end;
      barrier = raised_below c.bars.result x m.barrier c.raised-barrier.result n c.raised-barrier.ensures l b.barrier;
    }
