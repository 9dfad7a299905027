use Rattle.std.proofs.Common.{◌≡◌, ◌&&◌, nat_le, nat_lt, true, length, refl, sym, ◌∙◌, subst}
use Rattle.spec_exchange.specs.Client.{Client, create_for}
use Rattle.law_client.proofs.table.Chosen.{and_left, and_right, is_at_most, is_positive}
use Rattle.client_rows.specs.lock_slots.Shown.{ShowsSlots}
use Rattle.client_steps.proofs.open_updates.Filled.{full_now, is_none, none_filled}
use Rattle.client_steps.proofs.open_updates.filling.fill_own.Goals as goal

pub fill_in-requires : goal.fill_in-requires
fill_in-requires c =
    let x = c.args.slot in
    let n = length c.args.own.now.slots.items in
    let t : (nat_lt 0 x && nat_le x n) ≡ true = sym c.is_used.ensures ∙ c.if-is_used.true in
    record {
      above = is_positive x (and_left (nat_lt 0 x) (nat_le x n) t);
      within = is_at_most x n (and_right (nat_lt 0 x) (nat_le x n) t);
    }

pub returns-then-is_used : goal.returns-then-is_used
returns-then-is_used c =
    let e = c.fill_in.ensures in
    record {
      session = refl;
      locks = refl;
      room = e.room;
      count = e.count;
      users = e.users;
      shown = λ d g session rows lock at inside h.
          subst (λ (z : Client). ShowsSlots rows c.fill_in.new.slots.items session z (create_for d g)) (full_now d g lock)
          (e.shown d g session rows lock at h);
    }

pub returns-else-is_used : goal.returns-else-is_used
returns-else-is_used c =
    let slots = c.args.own.now.slots.items in
    record {
      session = refl;
      locks = refl;
      room = refl;
      count = refl;
      users = λ p. refl;
      shown = λ d g session rows lock at inside h. none_filled rows slots session d g (create_for d g)
          (at ∙ is_none c.args.slot (length slots) (sym c.is_used.ensures ∙ c.if-is_used.false) inside) h;
    }
