use Rattle.std.proofs.Common.{◌-◌, ◌<◌, List, length, refl, sym, ◌∙◌, subst, ap, arith}
use Rattle.std.proofs.Math.ListN.{length-set}
use Rattle.spec_exchange.specs.Client.{again, create_for}
use Rattle.client_rows.specs.declared.operation_rows.slots.Slot.{Slot}
use Rattle.client_rows.specs.operation_rows.Slots.{slot_at}
use Rattle.client_rows.specs.lock_slots.Shown.{ShowsSlots}
use Rattle.client_rows.proofs.lock_slots.Showing.{tried_by, same_user}
use Rattle.client_rows.proofs.lock_slots.using.try_again.Goals as goal

pub retry_at-requires : goal.retry_at-requires
retry_at-requires c = let l = c.requires.within in let a = c.requires.above in omega arith

pub returns : goal.returns
returns c =
    let l = c.requires.within in
    let a = c.requires.above in
    let b : c.args.slot - 1 < length c.args.slots.now = omega arith in
    let s : Slot = record (slot_at c.args.slots.now (c.args.slot - 1)) { retried = c.args.session } in
    record {
      count = ap (λ (xs : List Slot). length xs) c.retry_at.ensures ∙ length-set c.args.slots.now (c.args.slot - 1) s;
      users = λ p. ap (λ (xs : List Slot). (slot_at xs p).user) c.retry_at.ensures
          ∙ same_user c.args.slots.now (c.args.slot - 1) s b refl p;
      shown = λ d g rows lock at h. subst (λ (xs : List Slot). ShowsSlots rows xs c.args.session (again d g) (create_for d g))
          (sym c.retry_at.ensures) (tried_by rows c.args.slots.now c.args.session d g c.args.slot a l lock at h);
    }
