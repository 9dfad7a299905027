use Rattle.std.proofs.Common.{List, length, refl, sym, ap, ◌∙◌, arith, Some, true, false}
use Rattle.std.proofs.Math.ListN.{length-set}
use Rattle.spec_exchange.specs.Table.{put}
use Rattle.spec_exchange.specs.Client.{create_for, next_number}
use Rattle.client_rows.specs.declared.operation_rows.row.Row.{Row}
use Rattle.client_rows.specs.operation_rows.Rows.{row_at}
use Rattle.client_rows.proofs.Moving.{put_col, same_col}
use Rattle.client_tables.proofs.pushes.Sent.{firm_same, have_same, lock_shown, lock_slots}
use Rattle.client_tables.proofs.pushes.sending.send_lock.Goals as goal

pub take_slot-number-requires : goal.take_slot-number-requires
take_slot-number-requires c =
    let n = c.requires.counts in
    record {
      above = c.requires.above;
      within = c.requires.slot;
      room = c.requires.room;
      users = c.requires.users;
      taken = c.requires.within;
      few = (let a = n.has_watchers in let b = n.few in omega arith);
    }

pub returns-clause-users : goal.returns-clause-users
returns-clause-users c =
    let old = c.args.rows.now in
    let r : Row = record (row_at old c.args.index) {
      sent = true;
      asking = false;
      outstanding_on = Some c.args.channel;
      sequence = c.sequence.result;
      slot = c.args.slot;
      slot_number = c.take_slot-number.result;
    } in
    have_same old c.put_row.new.rows c.take_slot-number.new.slots.items
    (ap (λ (rs : List Row). length rs) c.put_row.ensures.row ∙ length-set old c.args.index r) c.take_slot-number.ensures.users

pub returns-clause-shown : goal.returns-clause-shown
returns-clause-shown c = λ d holders s session slots above lock fresh.
    let old = c.args.rows.now in
    let x = c.args.index in
    let r : Row = record (row_at old x) {
      sent = true;
      asking = false;
      outstanding_on = Some c.args.channel;
      sequence = c.sequence.result;
      slot = c.args.slot;
      slot_number = c.take_slot-number.result;
    } in
    let w = s.sends in
    let number = next_number d (d.slot_user (create_for d x) c.args.slot) in
    lock_shown c.put_row.new.rows holders c.put_row.new.prices c.args.watchers.now d c.args.channel x c.args.slot fresh lock
    (c.put_row.ensures.shown d holders (put d.sent x true) (put d.outstanding_on x (Some c.args.channel))
    (put d.asks_attach x false) d.unanswered (put d.sequence_of x d.sequence) (put d.slot_of x c.args.slot)
    (put d.number_of x number) s
    (record {
      sent_is = put_col (λ (z : Row). z.sent) old x r d.sent true c.requires.within refl w.sent_is;
      out_is = put_col (λ (z : Row). z.outstanding_on) old x r d.outstanding_on (Some c.args.channel) c.requires.within refl w.out_is;
      asks_is = put_col (λ (z : Row). z.asking) old x r d.asks_attach false c.requires.within refl w.asks_is;
      unanswered_is = same_col (λ (z : Row). z.unanswered) old x r d.unanswered c.requires.within refl w.unanswered_is;
      sequence_is = put_col (λ (z : Row). z.sequence) old x r d.sequence_of d.sequence c.requires.within
          (sym (c.sequence.ensures d session)) w.sequence_is;
      slot_is = put_col (λ (z : Row). z.slot) old x r d.slot_of c.args.slot c.requires.within refl w.slot_is;
      number_is = put_col (λ (z : Row). z.slot_number) old x r d.number_of number c.requires.within
          (sym (c.take_slot-number.ensures.number d d.session_number slots w.number_is)) w.number_is;
    }))

pub returns-clause-slots : goal.returns-clause-slots
returns-clause-slots c = λ d holders s slots above lock fresh.
    let old = c.args.rows.now in
    let x = c.args.index in
    let r : Row = record (row_at old x) {
      sent = true;
      asking = false;
      outstanding_on = Some c.args.channel;
      sequence = c.sequence.result;
      slot = c.args.slot;
      slot_number = c.take_slot-number.result;
    } in
    lock_slots old c.put_row.new.rows c.take_slot-number.new.slots.items d.session_number d c.args.channel x c.args.slot
    (create_for d x) (firm_same old c.put_row.new.rows x r c.requires.within refl c.put_row.ensures.row) fresh lock
    (c.take_slot-number.ensures.shown d d.session_number slots
    (s.places.firm_is x above (s.places.is_taken x above c.requires.within)))

pub returns-clause-place : goal.returns-clause-place
returns-clause-place c = c.put_row.ensures.place refl
