use Rattle.std.proofs.Common.{◌-◌, ◌<◌, false, true, List, length, refl, sym, ◌∙◌, subst, ap, arith}
use Rattle.std.proofs.Math.ListN.{length-set}
use Rattle.spec_exchange.specs.Client.{create_for}
use Rattle.spec_exchange.specs.Settling.{noted_full}
use Rattle.spec_exchange.specs.Status.{disk_full}
use Rattle.client_rows.specs.declared.operation_rows.slots.Slot.{Slot}
use Rattle.client_rows.specs.operation_rows.Slots.{slot_at}
use Rattle.client_rows.specs.lock_slots.Shown.{ShowsSlots}
use Rattle.client_rows.proofs.lock_slots.Showing.{filled_full, same_user}
use Rattle.client_rows.proofs.lock_slots.using.fill_slot.Goals as goal

pub fill_at-requires : goal.fill_at-requires
fill_at-requires c = let l = c.requires.within in let a = c.requires.above in omega arith

pub returns : goal.returns
returns c =
    let l = c.requires.within in
    let a = c.requires.above in
    let b : c.args.slot - 1 < length c.args.slots.now = omega arith in
    let s : Slot = record (slot_at c.args.slots.now (c.args.slot - 1)) { full = true } in
    record {
      count = ap (λ (xs : List Slot). length xs) c.fill_at.ensures ∙ length-set c.args.slots.now (c.args.slot - 1) s;
      users = λ p. ap (λ (xs : List Slot). (slot_at xs p).user) c.fill_at.ensures
          ∙ same_user c.args.slots.now (c.args.slot - 1) s b refl p;
      shown = λ d g session rows lock at h. subst (λ (xs : List Slot). ShowsSlots rows xs session
          (noted_full d g false disk_full) (create_for d g)) (sym c.fill_at.ensures)
          (filled_full rows c.args.slots.now session d g c.args.slot a l lock at h);
    }
