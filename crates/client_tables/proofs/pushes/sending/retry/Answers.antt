use Rattle.std.proofs.Common.{◌≤◌, List, length, refl, sym, ap, ◌∙◌, subst, arith}
use Rattle.std.proofs.Common.{◌≡◌}
use Rattle.std.proofs.lemmas.Grind.{common_steps}
use Rattle.spec_exchange.specs.Client.{again, create_for}
use Rattle.client_rows.specs.declared.operation_rows.slots.Slot.{Slot}
use Rattle.client_rows.specs.operation_rows.Rows.{row_at}
use Rattle.client_rows.specs.operation_rows.Slots.{slot_at}
use Rattle.client_rows.specs.lock_slots.Shown.{ShowsSlots}
use Rattle.client_tables.proofs.pushes.Sent.{whole}
use Rattle.client_tables.proofs.pushes.sending.retry.Goals as goal

pub try_again-requires : goal.try_again-requires
try_again-requires c =
    record {
      above = c.requires.above;
      within = subst (λ (xs : List Slot). (row_at c.args.rows.now c.args.index).slot ≤ length xs) (sym c.deref_mut.ensures.value)
          c.requires.within;
    }

pub returns : goal.returns
returns c =
    let x = c.args.index in
    let o = c.deref_mut.ensures.value in
    let n : length c.args.slots.now.items ≡ c.args.slots.now.len = grind (arith, common_steps) in
    let w = whole c.args.slots.now.len c.args.slots.now.items c.try_again.new.slots n
    (c.try_again.ensures.count ∙ ap (λ (xs : List Slot). length xs) o) in
    record {
      count = ap (λ (xs : List Slot). length xs) w ∙ c.try_again.ensures.count ∙ ap (λ (xs : List Slot). length xs) o;
      capacity = refl;
      users = λ p. ap (λ (xs : List Slot). (slot_at xs p).user) w ∙ c.try_again.ensures.users p
          ∙ ap (λ (xs : List Slot). (slot_at xs p).user) o;
      shown = λ d lines session lock at h. subst (λ (xs : List Slot). ShowsSlots lines xs d.session_number (again d x) (create_for d x))
          (sym w) (subst (λ z. ShowsSlots lines c.try_again.new.slots z (again d x) (create_for d x)) (c.number.ensures d session)
          (c.try_again.ensures.shown d x lines lock at
          (subst (λ z. ShowsSlots lines c.deref_mut.result.now z d (create_for d x)) (sym (c.number.ensures d session))
          (subst (λ (xs : List Slot). ShowsSlots lines xs d.session_number d (create_for d x)) (sym o) h))));
    }
