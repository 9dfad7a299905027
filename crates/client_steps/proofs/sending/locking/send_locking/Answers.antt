use Rattle.std.proofs.Common.{◌≡◌, ◌<◌, ◌≤◌, ◌&&◌, ◌||◌, nat_le, nat_lt, true, false, length, vec_len, vec_capacity}
use Rattle.std.proofs.Common.{refl, sym, ◌∙◌, subst, arith}
use Rattle.std.proofs.lemmas.Grind.{common_steps}
use Rattle.law_client.proofs.table.Chosen.{and_left, and_right, is_at_most, is_positive}
use Rattle.client_rows.specs.operation_rows.Rows.{row_at}
use Rattle.client_steps.proofs.sending.Going.{keeps_none, not_among}
use Rattle.client_steps.proofs.sending.Room.{finds_room, no_room}
use Rattle.client_steps.proofs.sending.locking.send_locking.Goals as goal

pub send_lock_again_at-requires : goal.send_lock_again_at-requires
send_lock_again_at-requires c =
    let r = c.requires in
    let x = (row_at c.args.table.now.rows.items c.args.index).slot in
    let n = length c.args.slots.now.items in
    let t : (nat_lt 0 x && nat_le x n) ≡ true = sym c.has_slot.ensures ∙ c.if-has_slot.true in
    record {
      fits = r.fits;
      within = r.within;
      users = r.users;
      above = is_positive x (and_left (nat_lt 0 x) (nat_le x n) t);
      slot = is_at_most x n (and_right (nat_lt 0 x) (nat_le x n) t);
    }

pub returns-then-has_slot : goal.returns-then-has_slot
returns-then-has_slot c =
    let e = c.send_lock_again_at.ensures in
    let x = c.args.index in
    record {
      fits = e.fits;
      session = e.session;
      place = e.place;
      users = e.users;
      positive = λ p a. e.positive a;
      most = λ n a b. subst (λ z. z ≤ n) (sym e.slot_count) b;
      capacity = e.capacity;
      shown = λ d s h p lock has. (
          let sent : d.sent x ≡ true = s.rows.sends.sent_is x ∙ sym c.was_sent.ensures ∙ c.if-was_sent.true in (
            e.shown d c.args.slot s lock sent,
            e.slots d c.args.slot s h lock sent,
          )
          );
    }

pub returns-else-has_slot : goal.returns-else-has_slot
returns-else-has_slot c =
    let r = c.requires in
    let x = c.args.index in
    let n = length c.args.slots.now.items in
    let rows = c.args.table.now.rows.items in
    record {
      fits = r.fits;
      session = refl;
      place = keeps_none rows x;
      users = r.users;
      positive = λ p a. a;
      most = λ n a b. b;
      capacity = refl;
      shown = λ d s h p lock has. absurd (
          let sent : d.sent x ≡ true = s.rows.sends.sent_is x ∙ sym c.was_sent.ensures ∙ c.if-was_sent.true in
          let w = has.again sent in
          let q = s.rows.sends.slot_is x in
          not_among (row_at rows x).slot n (sym c.has_slot.ensures ∙ c.if-has_slot.false) (subst (λ y. 0 < y) q w.0)
          (subst (λ y. y ≤ n) q w.1)
          );
    }

pub send_lock_at-requires : goal.send_lock_at-requires
send_lock_at-requires c =
    let r = c.requires in
    let slots = c.args.slots.now in
    let x = c.args.slot in
    let n = length slots.items in
    let t : (nat_lt 0 x && (nat_le x n || nat_lt n (vec_capacity slots))) ≡ true = sym c.may_take.ensures ∙ c.if-may_take.true in
    let found = finds_room x n (vec_capacity slots) (and_right (nat_lt 0 x) (nat_le x n || nat_lt n (vec_capacity slots)) t) in
    record {
      fits = r.fits;
      within = r.within;
      users = r.users;
      above = is_positive x (and_left (nat_lt 0 x) (nat_le x n || nat_lt n (vec_capacity slots)) t);
      slot = r.slot;
      room = λ l. (let k : vec_len slots ≡ n = grind (arith, common_steps) in subst (λ y. y < vec_capacity slots) (sym k) (found l));
    }

pub returns-then-may_take : goal.returns-then-may_take
returns-then-may_take c =
    let e = c.send_lock_at.ensures in
    let x = c.args.index in
    record {
      fits = e.fits;
      session = e.session;
      place = e.place;
      users = e.users;
      positive = e.positive;
      most = e.most;
      capacity = e.capacity;
      shown = λ d s h p lock has. (
          let sent : d.sent x ≡ false = s.rows.sends.sent_is x ∙ sym c.was_sent.ensures ∙ c.if-was_sent.false in (
            e.shown d s h p lock sent,
            e.slots d s h p lock sent,
          )
          );
    }

pub returns-else-may_take : goal.returns-else-may_take
returns-else-may_take c =
    let r = c.requires in
    let x = c.args.index in
    record {
      fits = r.fits;
      session = refl;
      place = keeps_none c.args.table.now.rows.items x;
      users = r.users;
      positive = λ p a. a;
      most = λ n a b. b;
      capacity = refl;
      shown = λ d s h p lock has. absurd (
          let sent : d.sent x ≡ false = s.rows.sends.sent_is x ∙ sym c.was_sent.ensures ∙ c.if-was_sent.false in
          let some = has.first sent in
          no_room c.args.slot (length c.args.slots.now.items) (vec_capacity c.args.slots.now)
          (sym c.may_take.ensures ∙ c.if-may_take.false) some.0 some.1
          );
    }
