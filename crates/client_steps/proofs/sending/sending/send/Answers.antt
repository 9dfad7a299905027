use Rattle.std.proofs.Common.{◌≡◌, ℕ, ◌<◌, not, true, false, length, set, slice_index_or, vec_capacity, sym, ap, ◌∙◌, subst}
use Rattle.spec_exchange.specs.Operations.{is_lock}
use Rattle.spec_exchange.specs.Client.{Client, begun, create_for, goes_itself, outstanding}
use Rattle.client_rows.specs.operation_rows.Rows.{row_at, owner}
use Rattle.client_rows.specs.lock_slots.Shown.{AreUsed, ShowsSlots}
use Rattle.client_tables.specs.declared.choice.finding.Attached.{Attached}
use Rattle.client_tables.specs.choice.Shown.{IsChoiceAt}
use Rattle.client_tables.specs.whole_table.Shown.{ShowsTable}
use Rattle.client_tables.specs.attached_opens.Locks.{locks_on}
use Rattle.client_tables.specs.attached_opens.Opens.{FitsOpens, HasSlots, IsRoomy, KeepsOthers, ShowsAttached}
use Rattle.client_tables.specs.attached_opens.Places.{KeepsPlaces}
use Rattle.client_tables.proofs.attached_opens.Changed.{fits_set, shown_set}
use Rattle.client_tables.proofs.attached_opens.Kept.{places_step}
use Rattle.client_tables.proofs.attached_opens.Known.{known_moved}
use Rattle.client_tables.proofs.attached_opens.Moved.{fits_moved, shown_moved}
use Rattle.client_tables.proofs.attached_opens.Slots.{slots_kept, slots_shown}
use Rattle.client_steps.specs.sending.Slotted.{HasSlot}
use Rattle.client_steps.proofs.sending.Going.{asks_after, has_slot_so, itself_at, lock_at, sends_after}
use Rattle.client_steps.proofs.sending.Room.{slot_room}
use Rattle.client_steps.proofs.sending.Opened.{begun_attached, begun_others, known_after, plain_attached}
use Rattle.client_steps.proofs.sending.sending.send.Goals as goal

pub bounds-attached-at : goal.bounds-attached-at
bounds-attached-at c =
    subst (λ y. y < length c.args.attached.now) (sym c.open_of-at.ensures)
    (c.requires.opens.opens c.args.index c.requires.above c.requires.within)

pub returns-then-not-goes_now : goal.returns-then-not-goes_now
returns-then-not-goes_now c =
    let t = c.args.table.now in
    let rows = t.rows.items in
    let attached = c.args.attached.now in
    let x = c.args.index in
    let r = c.requires in
    let e = c.ask_at.ensures in
    let next = c.ask_at.new.table in
    let new = next.rows.items in
    let own : Attached = slice_index_or attached c.open_of-at.result c.index-attached-at.result in
    let is : IsChoiceAt attached (row_at rows x).«open» own =
    subst (λ (y : ℕ). IsChoiceAt attached y own) c.open_of-at.ensures
    (ap (λ (z : Attached). slice_index_or attached c.open_of-at.result z) c.index-attached-at.is) in
    let m : KeepsPlaces rows new = places_step rows new x e.place in
    let goes : (d : Client) → ShowsTable t d → ShowsAttached rows attached d → goes_itself d x ≡ false = (λ d s a.
    itself_at t.session rows t.holders.items t.prices t.watchers t.ops.items t.settled.items t.order.items t.dialogs.items attached d x
    own c.goes_now.result r.above r.within is c.goes_now.ensures s a ∙ c.if-not-goes_now.true) in
    record {
      fits = e.fits;
      opens = fits_moved rows new attached m r.opens;
      session = e.session;
      places = m;
      shown = λ d s a may has.
          subst (λ (z : Client). ShowsTable next z × ShowsAttached new attached z)
          (sym (asks_after d c.args.channel x c.args.slot may (goes d s a)))
          (e.shown d s, shown_moved rows new attached m d.attached d.slot_user d.retried d.full a);
      known = λ d opened s. known_after new opened d c.args.channel x c.args.slot
          (known_moved rows new opened m d.op d.file d.closed_ok d.sent d.slot_of s);
      told = λ d s a. sym (ap (λ b. not b) (goes d s a));
    }

pub returns-then-not-is_lock : goal.returns-then-not-is_lock
returns-then-not-is_lock c =
    let t = c.args.table.now in
    let rows = t.rows.items in
    let attached = c.args.attached.now in
    let x = c.args.index in
    let k = c.args.channel in
    let i = c.args.slot in
    let r = c.requires in
    let e = c.send_plain_at.ensures in
    let next = c.send_plain_at.new.table in
    let new = next.rows.items in
    let own : Attached = slice_index_or attached c.open_of-at.result c.index-attached-at.result in
    let is : IsChoiceAt attached (row_at rows x).«open» own =
    subst (λ (y : ℕ). IsChoiceAt attached y own) c.open_of-at.ensures
    (ap (λ (z : Attached). slice_index_or attached c.open_of-at.result z) c.index-attached-at.is) in
    let m : KeepsPlaces rows new = places_step rows new x e.place in
    let goes : (d : Client) → ShowsTable t d → ShowsAttached rows attached d → goes_itself d x ≡ true = (λ d s a.
    itself_at t.session rows t.holders.items t.prices t.watchers t.ops.items t.settled.items t.order.items t.dialogs.items attached d x
    own c.goes_now.result r.above r.within is c.goes_now.ensures s a ∙ c.if-not-goes_now.false) in
    record {
      fits = e.fits;
      opens = fits_moved rows new attached m r.opens;
      session = e.session;
      places = m;
      shown = λ d s a may has. (
          let g = goes d s a in
          let plain : is_lock (d.op x) ≡ false =
          lock_at rows t.holders.items t.prices t.watchers d x r.above r.within s.rows ∙ sym c.is_lock.ensures ∙ c.if-not-is_lock.true in
          subst (λ (z : Client). ShowsTable next z × ShowsAttached new attached z) (sym (sends_after d k x i may g (has g))) (
            e.shown d i s plain,
            plain_attached new attached d k x i plain (shown_moved rows new attached m d.attached d.slot_user d.retried d.full a),
          )
          );
      known = λ d opened s. known_after new opened d c.args.channel x c.args.slot
          (known_moved rows new opened m d.op d.file d.closed_ok d.sent d.slot_of s);
      told = λ d s a. sym (ap (λ b. not b) (goes d s a));
    }

pub bounds-attached-at-2 : goal.bounds-attached-at-2
bounds-attached-at-2 c =
    subst (λ y. y < length c.args.attached.now) (sym c.open_of-at.ensures)
    (c.requires.opens.opens c.args.index c.requires.above c.requires.within)

pub send_locking-requires : goal.send_locking-requires
send_locking-requires c =
    let r = c.requires in
    let rows = c.args.table.now.rows.items in
    let attached = c.args.attached.now in
    let x = c.args.index in
    let own : Attached = slice_index_or attached c.open_of-at.result c.index-attached-at-2.result in
    let is : IsChoiceAt attached (row_at rows x).«open» own =
    subst (λ (y : ℕ). IsChoiceAt attached y own) c.open_of-at.ensures
    (ap (λ (z : Attached). slice_index_or attached c.open_of-at.result z) c.index-attached-at-2.is) in
    let inside = r.opens.opens x r.above r.within in
    record {
      fits = r.fits;
      within = r.within;
      users = (r.opens.bounded (row_at rows x).«open» own inside is).1;
      slot = r.slot own is;
    }

pub returns : goal.returns
returns c =
    let t = c.args.table.now in
    let rows = t.rows.items in
    let attached = c.args.attached.now in
    let x = c.args.index in
    let k = c.args.channel in
    let i = c.args.slot in
    let r = c.requires in
    let f = r.opens in
    let e = c.send_locking.ensures in
    let next = c.send_locking.new.table in
    let new = next.rows.items in
    let at = c.open_of-at.result in
    let own : Attached = slice_index_or attached c.open_of-at.result c.index-attached-at-2.result in
    let slots = c.send_locking.new.slots in
    let own2 : Attached = record { session = own.session; locks = own.locks; slots = slots } in
    let is : IsChoiceAt attached (row_at rows x).«open» own =
    subst (λ (y : ℕ). IsChoiceAt attached y own) c.open_of-at.ensures
    (ap (λ (z : Attached). slice_index_or attached c.open_of-at.result z) c.index-attached-at-2.is) in
    let one : Attached = slice_index_or attached at c.index-attached-at.result in
    let is_one : IsChoiceAt attached (row_at rows x).«open» one =
    subst (λ (y : ℕ). IsChoiceAt attached y one) c.open_of-at.ensures
    (ap (λ (z : Attached). slice_index_or attached at z) c.index-attached-at.is) in
    let placed = f.opens x r.above r.within in
    let inside : at < length attached = subst (λ y. y < length attached) (sym c.open_of-at.ensures) placed in
    let here : IsChoiceAt attached at own = ap (λ (z : Attached). slice_index_or attached at z) c.index-attached-at-2.is in
    let used : AreUsed own.slots.items = (λ place l. (f.users (row_at rows x).«open» own placed is place l).0) in
    let m : KeepsPlaces rows new = places_step rows new x e.place in
    let moved : FitsOpens new attached = fits_moved rows new attached m f in
    record {
      fits = e.fits;
      opens = fits_set attached at own2 inside new moved
          (subst (λ n. IsRoomy (locks_on new at) own.locks n) (sym e.capacity) (moved.room at own inside here))
          (e.most 64 r.few (f.bounded (row_at rows x).«open» own placed is).0)
          (λ place l. (e.positive r.above used place l, e.users place l));
      session = e.session;
      places = m;
      shown = λ d s a may has. (
          let goes : goes_itself d x ≡ true =
          itself_at t.session rows t.holders.items t.prices t.watchers t.ops.items t.settled.items t.order.items t.dialogs.items attached d
          x one c.goes_now.result r.above r.within is_one c.goes_now.ensures s a ∙ c.if-not-goes_now.false in
          let lock : is_lock (d.op x) ≡ true =
          lock_at rows t.holders.items t.prices t.watchers d x r.above r.within s.rows ∙ sym c.is_lock.ensures ∙ c.if-not-is_lock.false in
          let taken = s.rows.places.is_taken x r.above r.within in
          let create : create_for d x ≡ owner rows x = s.rows.places.creates x r.above taken in
          let had : HasSlots own.slots.items (d.slot_user (create_for d x)) (d.retried (create_for d x)) (d.full (create_for d x)) =
          subst (λ (y : ℕ). HasSlots own.slots.items (d.slot_user y) (d.retried y) (d.full y)) (sym create)
          (a.slots_are x own r.above r.within is) in
          let h : ShowsSlots rows own.slots.items d.session_number d (create_for d x) =
          slots_shown rows t.holders.items t.prices t.watchers own.slots.items d (create_for d x) s.rows
          (f.users (row_at rows x).«open» own placed is) had in
          let slot : HasSlot d x i (length own.slots.items) (vec_capacity own.slots) =
          has_slot_so d x i own.slots.items r.above taken lock s.bounds had (has goes) (vec_capacity own.slots)
          (λ unsent. slot_room rows t.holders.items t.prices t.watchers attached d at x own s.rows s.bounds f r.above r.within
          (sym c.open_of-at.ensures) lock unsent inside here had i r.few) in
          let w = e.shown d s h r.above lock slot in
          let d2 : Client = outstanding (begun d x i) k x in
          let create2 : create_for d x ≡ owner new x = create ∙ sym (e.place.create x) in
          subst (λ (z : Client). ShowsTable next z × ShowsAttached new (set attached at own2) z)
          (sym (sends_after d k x i may goes (has goes))) (
            w.0,
            shown_set attached at own2 inside new x d2.attached d.attached d2.slot_user d.slot_user d2.retried d.retried d2.full d.full
                r.above (subst (λ n. x < n) (sym e.place.count) r.within) moved.paired
                (subst (λ n. owner new x < n) (sym e.place.count)
                (subst (λ y. y < length rows) (sym (e.place.create x)) (r.fits.owned x r.above r.within).1))
                (e.place.opens x ∙ sym c.open_of-at.ensures)
                (subst (λ (y : ℕ). KeepsOthers y d.attached d2.attached d.slot_user d2.slot_user d.retried d2.retried
                d.full d2.full) create2
                (begun_others d k x i))
                (begun_attached d k x i (owner new x) ∙ ap (λ y. d.attached y) (e.place.create x) ∙ a.session_is x own r.above r.within is)
                (subst (λ (y : ℕ). HasSlots slots.items (d2.slot_user y) (d2.retried y) (d2.full y)) create2
                (slots_kept new slots.items d.session_number d2 (create_for d x) w.1))
                (shown_moved rows new attached m d.attached d.slot_user d.retried d.full a),
          )
          );
      known = λ d opened s. known_after new opened d k x i (known_moved rows new opened m d.op d.file d.closed_ok d.sent d.slot_of s);
      told = λ d s a. (
          let goes : goes_itself d x ≡ true =
          itself_at t.session rows t.holders.items t.prices t.watchers t.ops.items t.settled.items t.order.items t.dialogs.items attached d
          x one c.goes_now.result r.above r.within is_one c.goes_now.ensures s a ∙ c.if-not-goes_now.false in
          sym (ap (λ b. not b) goes)
          );
    }
