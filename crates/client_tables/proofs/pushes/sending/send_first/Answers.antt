use Rattle.std.proofs.Common.{refl, sym, Some, true, false}
use Rattle.spec_exchange.specs.Table.{put}
use Rattle.client_rows.specs.declared.operation_rows.row.Row.{Row}
use Rattle.client_rows.specs.operation_rows.Rows.{row_at}
use Rattle.client_rows.proofs.Moving.{put_col, same_col}
use Rattle.client_tables.proofs.pushes.Sent.{firm_same, other_shown, other_slots}
use Rattle.client_tables.proofs.pushes.sending.send_first.Goals as goal

pub returns-clause-shown : goal.returns-clause-shown
returns-clause-shown c = λ d holders slot s session lock fresh.
    let old = c.args.rows.now in
    let x = c.args.index in
    let r : Row = record (row_at old x) {
      sent = true;
      asking = false;
      outstanding_on = Some c.args.channel;
      sequence = c.sequence.result;
    } in
    let w = s.sends in
    other_shown c.put_row.new.rows holders c.put_row.new.prices c.args.watchers.now d c.args.channel x slot fresh lock
    (c.put_row.ensures.shown d holders (put d.sent x true) (put d.outstanding_on x (Some c.args.channel))
    (put d.asks_attach x false) d.unanswered (put d.sequence_of x d.sequence) d.slot_of d.number_of s
    (record {
      sent_is = put_col (λ (z : Row). z.sent) old x r d.sent true c.requires.within refl w.sent_is;
      out_is = put_col (λ (z : Row). z.outstanding_on) old x r d.outstanding_on (Some c.args.channel) c.requires.within refl w.out_is;
      asks_is = put_col (λ (z : Row). z.asking) old x r d.asks_attach false c.requires.within refl w.asks_is;
      unanswered_is = same_col (λ (z : Row). z.unanswered) old x r d.unanswered c.requires.within refl w.unanswered_is;
      sequence_is = put_col (λ (z : Row). z.sequence) old x r d.sequence_of d.sequence c.requires.within
          (sym (c.sequence.ensures d session)) w.sequence_is;
      slot_is = same_col (λ (z : Row). z.slot) old x r d.slot_of c.requires.within refl w.slot_is;
      number_is = same_col (λ (z : Row). z.slot_number) old x r d.number_of c.requires.within refl w.number_is;
    }))

pub returns-clause-slots : goal.returns-clause-slots
returns-clause-slots c = λ d slots number create slot h lock fresh.
    let old = c.args.rows.now in
    let x = c.args.index in
    let r : Row = record (row_at old x) {
      sent = true;
      asking = false;
      outstanding_on = Some c.args.channel;
      sequence = c.sequence.result;
    } in
    other_slots old c.put_row.new.rows slots number d c.args.channel x slot create
    (firm_same old c.put_row.new.rows x r c.requires.within refl c.put_row.ensures.row) fresh lock h

pub returns-clause-place : goal.returns-clause-place
returns-clause-place c = c.put_row.ensures.place refl
