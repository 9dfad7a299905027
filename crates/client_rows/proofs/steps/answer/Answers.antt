use Rattle.std.proofs.Common.{refl, None}
use Rattle.spec_exchange.specs.Table.{put}
use Rattle.client_rows.specs.declared.operation_rows.row.Row.{Row}
use Rattle.client_rows.specs.operation_rows.Rows.{row_at}
use Rattle.client_rows.proofs.Moving.{put_col, same_col}
use Rattle.client_rows.proofs.steps.answer.Goals as goal

pub returns-clause-shown : goal.returns-clause-shown
returns-clause-shown c = λ d holders s.
    let old = c.args.rows.now in
    let x = c.args.index in
    let r : Row = record (row_at old x) { outstanding_on = None } in
    let w = s.sends in
    c.put_row.ensures.shown d holders d.sent (put d.outstanding_on x None)
    d.asks_attach d.unanswered d.sequence_of d.slot_of d.number_of s
    (record {
      sent_is = same_col (λ (z : Row). z.sent) old x r d.sent c.requires.within refl w.sent_is;
      out_is = put_col (λ (z : Row). z.outstanding_on) old x r d.outstanding_on None c.requires.within refl w.out_is;
      asks_is = same_col (λ (z : Row). z.asking) old x r d.asks_attach c.requires.within refl w.asks_is;
      unanswered_is = same_col (λ (z : Row). z.unanswered) old x r d.unanswered c.requires.within refl w.unanswered_is;
      sequence_is = same_col (λ (z : Row). z.sequence) old x r d.sequence_of c.requires.within refl w.sequence_is;
      slot_is = same_col (λ (z : Row). z.slot) old x r d.slot_of c.requires.within refl w.slot_is;
      number_is = same_col (λ (z : Row). z.slot_number) old x r d.number_of c.requires.within refl w.number_is;
    })

pub returns-clause-place : goal.returns-clause-place
returns-clause-place c = c.put_row.ensures.place refl
