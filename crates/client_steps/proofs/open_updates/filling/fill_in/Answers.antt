use Rattle.std.proofs.Common.{◌≡◌, ◌≤◌, false, List, length, refl, sym, ap, ◌∙◌, subst, arith}
use Rattle.std.proofs.lemmas.Grind.{common_steps}
use Rattle.spec_exchange.specs.Client.{create_for}
use Rattle.spec_exchange.specs.Settling.{noted_full}
use Rattle.spec_exchange.specs.Status.{disk_full}
use Rattle.client_rows.specs.declared.operation_rows.slots.Slot.{Slot}
use Rattle.client_rows.specs.operation_rows.Slots.{slot_at}
use Rattle.client_rows.specs.lock_slots.Shown.{ShowsSlots}
use Rattle.client_tables.proofs.whole_table.Losing.{whole}
use Rattle.client_steps.proofs.open_updates.filling.fill_in.Goals as goal

pub fill_slot-requires : goal.fill_slot-requires
fill_slot-requires c =
    record {
      above = c.requires.above;
      within = subst (λ (xs : List Slot). c.args.slot ≤ length xs) (sym c.deref_mut.ensures.value) c.requires.within;
    }

pub returns : goal.returns
returns c =
    let o = c.deref_mut.ensures.value in
    let e = c.fill_slot.ensures in
    let n : length c.args.slots.now.items ≡ c.args.slots.now.len = grind (arith, common_steps) in
    let w = whole c.args.slots.now.len c.args.slots.now.items c.fill_slot.new.slots n (e.count ∙ ap (λ (xs : List Slot). length xs) o) in
    record {
      room = refl;
      count = ap (λ (xs : List Slot). length xs) w ∙ e.count ∙ ap (λ (xs : List Slot). length xs) o;
      users = λ p. ap (λ (xs : List Slot). (slot_at xs p).user) w ∙ e.users p ∙ ap (λ (xs : List Slot). (slot_at xs p).user) o;
      shown = λ d g session rows lock at h.
          subst (λ (xs : List Slot). ShowsSlots rows xs session (noted_full d g false disk_full) (create_for d g)) (sym w)
          (e.shown d g session rows lock at (subst (λ (xs : List Slot). ShowsSlots rows xs session d (create_for d g)) (sym o) h));
    }
