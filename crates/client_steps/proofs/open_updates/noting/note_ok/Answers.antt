use Rattle.std.proofs.Common.{◌≡◌, ℕ, ◌<◌, true, false, List, length, set, get_or, refl, sym, ap, ◌∙◌, subst}
use Rattle.std.proofs.Math.ListN.{length-set}
use Rattle.std.proofs.lemmas.List.{get_or_default}
use Rattle.spec_exchange.specs.Table.{put}
use Rattle.spec_exchange.specs.Operations.{id_in, is_close, is_create, persists}
use Rattle.spec_exchange.specs.Client.{Client, create_for}
use Rattle.client_rows.specs.operation_rows.Rows.{row_at, owner}
use Rattle.client_rows.proofs.operation_rows.Walking.{put_at, put_off}
use Rattle.client_tables.specs.whole_table.Shown.{ShowsTable}
use Rattle.client_tables.specs.declared.attached_opens.opened.Opened.{Opened}
use Rattle.client_tables.specs.attached_opens.Known.{IsKnownAt, ShowsOpened}
use Rattle.client_tables.specs.attached_opens.Opens.{ShowsAttached, ShowsSlotsOf}
use Rattle.client_tables.specs.attached_opens.Places.{KeepsPlaces}
use Rattle.client_tables.proofs.attached_opens.Kept.{places_none}
use Rattle.client_tables.proofs.attached_opens.Known.{known_moved, known_set}
use Rattle.client_steps.proofs.open_updates.Noted.{close_at, create_at, notes_none, notes_open, notes_shut, table_beside}
use Rattle.client_steps.proofs.open_updates.noting.note_ok.Goals as goal

-- what a read past the end would give
abbrev none_known : Opened
none_known = record { persist = false; shut = false; file = 0 }

known_at : (opened : List Opened) (i at : ℕ) → at ≡ i → i < length opened → IsKnownAt opened i (get_or opened at none_known)
known_at opened i at e l =
    ap (λ y. get_or opened y none_known) e ∙ get_or_default opened i none_known (get_or opened at none_known) l

pub bounds-opened-at : goal.bounds-opened-at
bounds-opened-at c =
    subst (λ n. c.open_of-at.result < n) (sym c.requires.known)
    (subst (λ y. y < length c.args.attached.now) (sym c.open_of-at.ensures)
    (c.requires.opens.opens c.args.index c.requires.above c.requires.within))

pub returns-then-makes_open : goal.returns-then-makes_open
returns-then-makes_open c =
    let t = c.args.table.now in
    let rows = t.rows.items in
    let opened = c.args.opened.now in
    let x = c.args.index in
    let r = c.requires in
    let e = c.join_at.ensures in
    let next = c.join_at.new.table in
    let new = next.rows.items in
    let att = c.join_at.new.attached in
    let at = c.open_of-at.result in
    let own2 = c.name_open.new.own in
    let q = c.name_open.ensures in
    let placed : (row_at rows x).«open» < length opened =
    subst (λ n. (row_at rows x).«open» < n) (sym r.known) (r.opens.opens x r.above r.within) in
    let inside : at < length opened = subst (λ y. y < length opened) (sym c.open_of-at.ensures) placed in
    let is : IsKnownAt opened (row_at rows x).«open» (get_or opened at none_known) =
    known_at opened (row_at rows x).«open» at c.open_of-at.ensures placed in
    let m : KeepsPlaces rows new = e.places in
    record {
      fits = e.fits;
      opens = e.opens;
      count = e.count;
      known = length-set opened at own2;
      session = e.session;
      places = m;
      stand = e.stand;
      shown = λ d body s a k live itself named. (
          let create : is_create (d.op x) ≡ true =
          create_at rows t.holders.items t.prices t.watchers d x r.above r.within s.rows ∙ sym c.makes_open.ensures
          ∙ c.if-makes_open.true in
          let own_it : create_for d x ≡ x = itself create in
          let on : create_for d x ≡ owner rows x = s.rows.places.creates x r.above (s.rows.places.is_taken x r.above r.within) in
          let mine : owner new x ≡ x = m.create x ∙ sym on ∙ own_it in
          let w = e.shown d s a live in
          let n = d.session_number in
          let id = id_in body in
          subst (λ (z : Client). ShowsTable next z × ShowsAttached new att z × ShowsOpened new (set opened at own2) z)
          (sym (notes_open d x body create)) (
            table_beside next.session new next.holders.items next.prices next.watchers next.ops.items next.settled.items next.order.items
                next.dialogs.items (record d { attached = put d.attached x n }) (put d.file x id) d.closed_ok d.full
                (subst (λ (y : ℕ). ShowsTable next (record d { attached = put d.attached y n })) own_it w.0),
            subst (λ (y : ℕ). ShowsSlotsOf new att (put d.attached y n) d.slot_user d.retried d.full) own_it w.1,
            known_set opened at own2 inside new x d.op (put d.file x id) d.file d.closed_ok d.closed_ok d.sent d.slot_of r.above
                (subst (λ n. x < n) (sym m.count) r.within) e.opens.paired
                (subst (λ y. y < length new) (sym mine) (subst (λ n. x < n) (sym m.count) r.within))
                (m.opens x ∙ sym c.open_of-at.ensures) (λ y e. put_off d.file x id y (λ q. e (q ∙ sym mine))) (λ y e. refl)
                (put_at d.file x id (owner new x) mine ∙ sym named ∙ sym q.file)
                (ap (λ y. d.closed_ok y) (m.create x) ∙ k.closed_is x (get_or opened at none_known) r.above r.within is ∙ sym q.shut)
                (ap (λ y. persists (d.op y)) (m.create x) ∙ k.persists_is x (get_or opened at none_known) r.above
                r.within is ∙ sym q.persist)
                (known_moved rows new opened m d.op d.file d.closed_ok d.sent d.slot_of k),
          )
          );
    }

pub bounds-opened-at-then-shuts_open : goal.bounds-opened-at-then-shuts_open
bounds-opened-at-then-shuts_open c =
    subst (λ n. c.open_of-at.result < n) (sym c.requires.known)
    (subst (λ y. y < length c.args.attached.now) (sym c.open_of-at.ensures)
    (c.requires.opens.opens c.args.index c.requires.above c.requires.within))

pub returns-then-shuts_open : goal.returns-then-shuts_open
returns-then-shuts_open c =
    let t = c.args.table.now in
    let rows = t.rows.items in
    let opened = c.args.opened.now in
    let x = c.args.index in
    let r = c.requires in
    let at = c.open_of-at.result in
    let own2 = c.shut_open.new.own in
    let q = c.shut_open.ensures in
    let placed : (row_at rows x).«open» < length opened =
    subst (λ n. (row_at rows x).«open» < n) (sym r.known) (r.opens.opens x r.above r.within) in
    let inside : at < length opened = subst (λ y. y < length opened) (sym c.open_of-at.ensures) placed in
    let is : IsKnownAt opened (row_at rows x).«open» (get_or opened at none_known) =
    known_at opened (row_at rows x).«open» at c.open_of-at.ensures placed in
    record {
      fits = r.fits;
      opens = r.opens;
      count = refl;
      known = length-set opened at own2;
      session = refl;
      places = places_none rows;
      stand = λ g. refl;
      shown = λ d body s a k live itself named. (
          let create : is_create (d.op x) ≡ false =
          create_at rows t.holders.items t.prices t.watchers d x r.above r.within s.rows ∙ sym c.makes_open.ensures
          ∙ c.if-makes_open.false in
          let close : is_close (d.op x) ≡ true =
          close_at rows t.holders.items t.prices t.watchers d x r.above r.within s.rows ∙ sym c.shuts_open.ensures ∙ c.if-shuts_open.true in
          let on : create_for d x ≡ owner rows x = s.rows.places.creates x r.above (s.rows.places.is_taken x r.above r.within) in
          subst (λ (z : Client). ShowsTable t z × ShowsAttached rows c.args.attached.now z × ShowsOpened rows (set opened at own2) z)
          (sym (notes_shut d x body create close)) (
            table_beside t.session rows t.holders.items t.prices t.watchers t.ops.items t.settled.items t.order.items t.dialogs.items d
                d.file (put d.closed_ok (create_for d x) true) d.full s,
            a,
            known_set opened at own2 inside rows x d.op d.file d.file (put d.closed_ok (create_for d x) true) d.closed_ok d.sent d.slot_of
                r.above r.within r.opens.paired (r.fits.owned x r.above r.within).1 (sym c.open_of-at.ensures) (λ y e. refl)
                (λ y e. put_off d.closed_ok (create_for d x) true y (λ q. e (q ∙ on)))
                (k.file_is x (get_or opened at none_known) r.above r.within is ∙ sym q.file)
                (put_at d.closed_ok (create_for d x) true (owner rows x) (sym on) ∙ sym q.shut)
                (k.persists_is x (get_or opened at none_known) r.above r.within is ∙ sym q.persist) k,
          )
          );
    }

pub returns-else-shuts_open : goal.returns-else-shuts_open
returns-else-shuts_open c =
    let t = c.args.table.now in
    let rows = t.rows.items in
    let x = c.args.index in
    let r = c.requires in
    record {
      fits = r.fits;
      opens = r.opens;
      count = refl;
      known = refl;
      session = refl;
      places = places_none rows;
      stand = λ g. refl;
      shown = λ d body s a k live itself named. (
          let create : is_create (d.op x) ≡ false =
          create_at rows t.holders.items t.prices t.watchers d x r.above r.within s.rows ∙ sym c.makes_open.ensures
          ∙ c.if-makes_open.false in
          let close : is_close (d.op x) ≡ false =
          close_at rows t.holders.items t.prices t.watchers d x r.above r.within s.rows ∙ sym c.shuts_open.ensures
          ∙ c.if-shuts_open.false in
          subst (λ (z : Client). ShowsTable t z × ShowsAttached rows c.args.attached.now z × ShowsOpened rows c.args.opened.now z)
          (sym (notes_none d x body create close)) (s, a, k)
          );
    }
