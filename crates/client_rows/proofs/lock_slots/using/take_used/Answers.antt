use Rattle.std.proofs.Common.{◌-◌, ◌<◌, List, length, sym, ◌∙◌, subst, ap, arith}
use Rattle.std.proofs.Math.ListN.{length-set}
use Rattle.spec_exchange.specs.Client.{create_for, take_slot}
use Rattle.client_rows.specs.declared.operation_rows.slots.Slot.{Slot}
use Rattle.client_rows.specs.operation_rows.Slots.{slot_at}
use Rattle.client_rows.specs.lock_slots.Shown.{AreUsed, HaveRows, ShowsSlots}
use Rattle.client_rows.proofs.lock_slots.Showing.{have_used, number_used, used_at}
use Rattle.client_rows.proofs.lock_slots.Used.{used_again}
use Rattle.client_rows.proofs.lock_slots.using.take_used.Goals as goal

pub use_again-requires : goal.use_again-requires
use_again-requires c =
    let l = c.requires.within in
    let a = c.requires.above in
    let b : c.args.slot - 1 < length c.args.slots.now = omega arith in
    record { within = b; user = c.requires.users (c.args.slot - 1) b }

pub returns : goal.returns
returns c =
    let l = c.requires.within in
    let a = c.requires.above in
    let b : c.args.slot - 1 < length c.args.slots.now = omega arith in
    record {
      shown = λ d session h firm. subst (λ (xs : List Slot). ShowsSlots c.args.rows.now xs session
          (take_slot d c.args.index c.args.slot) (create_for d c.args.index)) (sym c.use_again.ensures.slots)
          (used_at c.args.rows.now c.args.slots.now session d c.args.index c.args.slot a b firm h);
      number = λ d session create h numbers. c.use_again.ensures.number
          ∙ number_used c.args.rows.now c.args.slots.now session d create c.args.slot a b h numbers;
      users = subst (λ (xs : List Slot). HaveRows c.args.rows.now xs) (sym c.use_again.ensures.slots)
          (have_used c.args.rows.now c.args.slots.now c.args.index c.requires.users c.requires.taken (c.args.slot - 1) b);
      positive = λ p used. subst (λ (xs : List Slot). AreUsed xs) (sym c.use_again.ensures.slots)
          (used_again c.args.slots.now (c.args.slot - 1) (record (slot_at c.args.slots.now (c.args.slot - 1)) {
            user = c.args.index;
          }) b p used);
      count = ap (λ (xs : List Slot). length xs) c.use_again.ensures.slots
          ∙ length-set c.args.slots.now (c.args.slot - 1) (record (slot_at c.args.slots.now (c.args.slot - 1)) { user = c.args.index });
    }
