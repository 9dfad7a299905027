use Rattle.std.proofs.Common.{◌≡◌, ℕ, ◌<◌, ◌≤◌, length, slice_index_or, vec_capacity, sym, ap, ◌∙◌, subst}
use Rattle.std.proofs.Math.ListN.{length-set}
use Rattle.spec_exchange.specs.Client.{Client, create_for}
use Rattle.client_rows.specs.operation_rows.Rows.{row_at, owner}
use Rattle.client_rows.specs.lock_slots.Shown.{ShowsSlots}
use Rattle.client_tables.specs.declared.choice.finding.Attached.{Attached}
use Rattle.client_tables.specs.choice.Shown.{IsChoiceAt}
use Rattle.client_tables.specs.attached_opens.Locks.{locks_on}
use Rattle.client_tables.specs.attached_opens.Opens.{HasSlots, IsRoomy, KeepsOthers}
use Rattle.client_tables.proofs.attached_opens.Changed.{fits_set, shown_set}
use Rattle.client_tables.proofs.attached_opens.Slots.{slots_kept, slots_shown}
use Rattle.client_steps.specs.open_updates.Columns.{filled_now}
use Rattle.client_steps.proofs.open_updates.Filled.{in_range, others_filled}
use Rattle.client_steps.proofs.open_updates.filling.fill_at.Goals as goal

pub bounds-attached-at : goal.bounds-attached-at
bounds-attached-at c =
    subst (λ y. y < length c.args.attached.now) (sym c.open_of-at.ensures)
    (c.requires.opens.opens c.args.index c.requires.above c.requires.within)

pub returns : goal.returns
returns c =
    let t = c.args.table.now in
    let rows = t.rows.items in
    let attached = c.args.attached.now in
    let x = c.args.index in
    let r = c.requires in
    let f = r.opens in
    let at = c.open_of-at.result in
    let own : Attached = slice_index_or attached at c.index-attached-at.result in
    let own2 = c.fill_own.new.own in
    let q = c.fill_own.ensures in
    let is : IsChoiceAt attached at own = ap (λ (z : Attached). slice_index_or attached at z) c.index-attached-at.is in
    let there : IsChoiceAt attached (row_at rows x).«open» own = subst (λ (i : ℕ). IsChoiceAt attached i own) c.open_of-at.ensures is in
    let inside : at < length attached =
    subst (λ i. i < length attached) (sym c.open_of-at.ensures) (f.opens x r.above r.within) in
    record {
      opens = fits_set attached at own2 inside rows f
          (subst (λ n. IsRoomy (locks_on rows at) n (vec_capacity own2.slots)) (sym q.locks)
          (subst (λ n. IsRoomy (locks_on rows at) own.locks n) (sym q.room) (f.room at own inside is)))
          (subst (λ n. n ≤ 64) (sym q.count) (f.bounded at own inside is).0)
          (λ place l. (
          let w = f.users at own inside is place (subst (λ n. place < n) q.count l) in (
            subst (λ u. 0 < u) (sym (q.users place)) w.0,
            subst (λ u. u < length rows) (sym (q.users place)) w.1,
          )
          ));
      count = length-set attached at own2;
      shown = λ d opened fit s a k lock. (
          let taken = s.rows.places.is_taken x r.above r.within in
          let create : create_for d x ≡ owner rows x = s.rows.places.creates x r.above taken in
          let slot : d.slot_of x ≡ c.slot_of-slot.result = s.rows.sends.slot_is x ∙ sym c.slot_of-slot.ensures in
          let had : HasSlots own.slots.items (d.slot_user (create_for d x)) (d.retried (create_for d x)) (d.full (create_for d x)) =
          subst (λ (y : ℕ). HasSlots own.slots.items (d.slot_user y) (d.retried y) (d.full y)) (sym create)
          (a.slots_are x own r.above r.within there) in
          let h : ShowsSlots rows own.slots.items d.session_number d (create_for d x) =
          slots_shown rows t.holders.items t.prices t.watchers own.slots.items d (create_for d x) s.rows (f.users at own inside is) had in
          let within : 0 < c.slot_of-slot.result → c.slot_of-slot.result ≤ length own.slots.items =
          in_range d x c.slot_of-slot.result own.slots.items r.above taken lock s.bounds had (k.unsent x) slot in
          let w = q.shown d x d.session_number rows lock slot within h in
          let d2 : Client = filled_now d x in
          shown_set attached at own2 inside rows x d2.attached d.attached d2.slot_user d.slot_user d2.retried d.retried d2.full d.full
          r.above r.within f.paired (fit.owned x r.above r.within).1 (sym c.open_of-at.ensures)
          (subst (λ (z : ℕ). KeepsOthers z d.attached d2.attached d.slot_user d2.slot_user d.retried d2.retried d.full d2.full) create
          (others_filled d x))
          (a.session_is x own r.above r.within there ∙ sym q.session)
          (subst (λ (z : ℕ). HasSlots own2.slots.items (d2.slot_user z) (d2.retried z) (d2.full z)) create
          (slots_kept rows own2.slots.items d.session_number d2 (create_for d x) w))
          a
          );
    }
