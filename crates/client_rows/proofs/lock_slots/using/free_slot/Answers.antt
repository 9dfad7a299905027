use Rattle.std.proofs.Common.{ℕ, ◌+◌, ◌<◌, ◌≤◌, length, sym, ◌∙◌, subst, Option, IfSome}
use Rattle.client_rows.proofs.lock_slots.Freeing.{least_few, least_is, least_within}
use Rattle.client_rows.proofs.lock_slots.using.free_slot.Goals as goal

pub returns : goal.returns
returns c =
    record {
      shown = λ d create counted h. c.least_free.ensures
          ∙ sym (least_is c.args.rows.now c.args.slots.now c.args.session d create counted h 1 64);
      within = subst (λ (o : Option ℕ). IfSome o (λ slot. (0 < slot) × (slot ≤ length c.args.slots.now + 1)))
          (sym c.least_free.ensures) (least_within c.args.rows.now c.args.slots.now c.args.session c.requires.few);
      few = subst (λ (o : Option ℕ). IfSome o (λ slot. slot ≤ 64)) (sym c.least_free.ensures)
          (least_few c.args.rows.now c.args.slots.now c.args.session c.requires.few);
    }
