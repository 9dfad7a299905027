use Rattle.std.proofs.Common.{◌≡◌, ℕ, ◌<◌, ◌≤◌, List, length, slice_index_or, vec_capacity, sym, ap, ◌∙◌, subst}
use Rattle.std.proofs.Math.ListN.{length-set}
use Rattle.spec_exchange.specs.Table.{put}
use Rattle.spec_exchange.specs.Client.{Client, create_for}
use Rattle.client_rows.specs.operation_rows.Rows.{row_at, owner}
use Rattle.client_rows.specs.declared.operation_rows.slots.Slot.{Slot}
use Rattle.client_rows.proofs.operation_rows.Walking.{put_at}
use Rattle.client_tables.specs.declared.choice.finding.Attached.{Attached}
use Rattle.client_tables.specs.choice.Shown.{IsChoiceAt}
use Rattle.client_tables.specs.whole_table.Shown.{ShowsTable}
use Rattle.client_tables.specs.attached_opens.Locks.{locks_on}
use Rattle.client_tables.specs.attached_opens.Opens.{FitsOpens, HasSlots, HaveUsers, IsRoomy, KeepsOthers}
use Rattle.client_tables.specs.attached_opens.Places.{KeepsPlaces}
use Rattle.client_tables.proofs.attached_opens.Changed.{fits_set, shown_set}
use Rattle.client_tables.proofs.attached_opens.Kept.{places_step}
use Rattle.client_tables.proofs.attached_opens.Moved.{fits_moved, shown_moved}
use Rattle.client_steps.specs.open_updates.Columns.{attached_now}
use Rattle.client_steps.proofs.open_updates.Joined.{last_own, last_within, none_above, others_joined}
use Rattle.client_steps.proofs.open_updates.attaching.join_at.Goals as goal

pub bounds-attached-at : goal.bounds-attached-at
bounds-attached-at c =
    subst (λ y. y < length c.args.attached.now) (sym c.open_of-at.ensures)
    (c.requires.opens.opens c.args.index c.requires.above c.requires.within)

pub attach_rows-requires : goal.attach_rows-requires
attach_rows-requires c =
    record {
      fits = c.requires.fits;
      within = last_within c.args.table.now.rows.items c.args.index c.args.last c.requires.above c.requires.within c.requires.last;
    }

pub returns : goal.returns
returns c =
    let t = c.args.table.now in
    let rows = t.rows.items in
    let attached = c.args.attached.now in
    let x = c.args.index in
    let y = c.args.last in
    let r = c.requires in
    let f = r.opens in
    let e = c.attach_rows.ensures in
    let next = c.attach_rows.new.table in
    let new = next.rows.items in
    let at = c.open_of-at.result in
    let own : Attached = slice_index_or attached at c.index-attached-at.result in
    let own2 = c.renumber.new.own in
    let q = c.renumber.ensures in
    let is : IsChoiceAt attached at own = ap (λ (z : Attached). slice_index_or attached at z) c.index-attached-at.is in
    let there : IsChoiceAt attached (row_at rows x).«open» own = subst (λ (i : ℕ). IsChoiceAt attached i own) c.open_of-at.ensures is in
    let placed = f.opens x r.above r.within in
    let inside : at < length attached = subst (λ i. i < length attached) (sym c.open_of-at.ensures) placed in
    let m : KeepsPlaces rows new = places_step rows new 0 (e.place 0) in
    let moved : FitsOpens new attached = fits_moved rows new attached m f in
    record {
      fits = e.fits;
      opens = fits_set attached at own2 inside new moved
          (subst (λ n. IsRoomy (locks_on new at) n (vec_capacity own2.slots)) (sym q.locks)
          (subst (λ n. IsRoomy (locks_on new at) own.locks n) (sym q.room) (moved.room at own inside is)))
          (subst (λ (xs : List Slot). length xs ≤ 64) (sym q.slots) (moved.bounded at own inside is).0)
          (subst (λ (xs : List Slot). HaveUsers new xs) (sym q.slots) (moved.users at own inside is));
      count = length-set attached at own2;
      session = e.session;
      places = m;
      stand = (e.place 0).unsettled;
      shown = λ d s a live. (
          let taken = s.rows.places.is_taken x r.above r.within in
          let create : create_for d x ≡ owner rows x = s.rows.places.creates x r.above taken in
          let create2 : create_for d x ≡ owner new x = create ∙ sym ((e.place 0).create x) in
          let own_last : owner rows y ≡ create_for d x = last_own rows x y r.above r.within r.last ∙ sym create in
          let d2 : Client = attached_now d x in (
            subst (λ (z : ℕ). ShowsTable next (record d { attached = put d.attached z d.session_number })) own_last
                (e.shown d s (none_above rows x y r.above r.within r.last) live),
            shown_set attached at own2 inside new x d2.attached d.attached d2.slot_user d.slot_user d2.retried d.retried d2.full d.full
                r.above (subst (λ n. x < n) (sym (e.place 0).count) r.within) moved.paired
                (subst (λ n. owner new x < n) (sym (e.place 0).count)
                (subst (λ i. i < length rows) (sym ((e.place 0).create x)) (r.fits.owned x r.above r.within).1))
                ((e.place 0).opens x ∙ sym c.open_of-at.ensures)
                (subst (λ (z : ℕ). KeepsOthers z d.attached d2.attached d.slot_user d2.slot_user d.retried d2.retried
                d.full d2.full) create2
                (others_joined d x))
                (put_at d.attached (create_for d x) d.session_number (owner new x) (sym create2) ∙ sym (c.number-number.ensures d s.session)
                ∙ sym q.session)
                (subst (λ (xs : List Slot). HasSlots xs (d2.slot_user (owner new x)) (d2.retried (owner new x)) (d2.full (owner new x)))
                (sym q.slots)
                (subst (λ (z : ℕ). HasSlots own.slots.items (d2.slot_user z) (d2.retried z) (d2.full z)) (sym ((e.place 0).create x))
                (a.slots_are x own r.above r.within there)))
                (shown_moved rows new attached m d.attached d.slot_user d.retried d.full a),
          )
          );
    }
