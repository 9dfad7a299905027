use Rattle.std.proofs.Common.{◌≡◌, ℕ, ◌<◌, ◌||◌, true, false, if◌then◌else◌, None, refl, sym, ap, ◌∙◌, subst}
use Rattle.spec_exchange.specs.Operations.{Op, create_of, is_create}
use Rattle.spec_exchange.specs.Client.{Client, create_for}
use Rattle.spec_exchange.specs.Settling.{noted, noted_full, settled, settles_open, with_no_opens}
use Rattle.law_client.specs.table.Columns.{IsClientFirst, ops_of, standing_of}
use Rattle.law_client.specs.table.Kept.{TableKept}
use Rattle.client_values.specs.declared.operations.shapes.Kind.{Kind}
use Rattle.client_values.specs.operations.Waiting.{is_close_kind}
use Rattle.client_rows.specs.open_marks.Marks.{is_create_kind}
use Rattle.client_values.specs.outcomes.Meaning.{outcome_of}
use Rattle.client_tables.specs.whole_table.Shown.{ShowsTable}
use Rattle.client_tables.specs.attached_opens.Known.{ShowsOpened}
use Rattle.client_tables.specs.attached_opens.Opens.{ShowsAttached}
use Rattle.client_tables.specs.attached_opens.Places.{KeepsPlaces}
use Rattle.client_tables.proofs.attached_opens.Kept.{places_both, places_goes}
use Rattle.client_tables.proofs.attached_opens.Known.{known_moved}
use Rattle.client_tables.proofs.attached_opens.Moved.{fits_moved, shown_moved}
use Rattle.client_steps.proofs.open_updates.Noted.{close_at, create_at}
use Rattle.client_steps.proofs.hearing.Noted.{ascends_moved, its_create, note_any, table_settled}
use Rattle.client_steps.proofs.hearing.settling.settle_heard.Goals as goal

pub settle_by_reply-requires : goal.settle_by_reply-requires
settle_by_reply-requires c =
    let e = c.note_reply.ensures in
    record {
      fits = e.fits;
      above = c.requires.above;
      within = subst (λ n. c.args.index < n) (sym e.places.count) c.requires.within;
      unsettled = e.stand c.args.index ∙ c.requires.unsettled;
    }

pub settles_open-requires : goal.settles_open-requires
settles_open-requires c =
    subst (λ n. c.args.index < n) (sym (c.settle_by_reply.ensures.settles.count ∙ c.note_reply.ensures.places.count)) c.requires.within

pub give_up_open-requires : goal.give_up_open-requires
give_up_open-requires c =
    let r = c.requires in
    let rows = c.args.table.now.rows.items in
    let mid = c.note_reply.new.table.rows.items in
    let new = c.settle_by_reply.new.self.rows.items in
    let e = c.note_reply.ensures in
    let m : KeepsPlaces mid new = places_goes mid new c.settle_by_reply.ensures.settles in
    record {
      fits = c.settle_by_reply.ensures.fits;
      opens = fits_moved mid new c.note_reply.new.attached m e.opens;
      known = e.known ∙ r.known ∙ sym e.count;
      later = ascends_moved rows new c.args.later.now (places_both rows mid new e.places m) r.later;
      above = r.above;
      within = subst (λ n. c.args.index < n) (sym (m.count ∙ e.places.count)) r.within;
    }

pub returns-then-settles_open : goal.returns-then-settles_open
returns-then-settles_open c =
    let r = c.requires in
    let x = c.args.index in
    let t = c.args.table.now in
    let rows = t.rows.items in
    let mid = c.note_reply.new.table.rows.items in
    let att = c.note_reply.new.attached in
    let opened = c.note_reply.new.opened in
    let behind = c.settle_by_reply.new.self in
    let new = behind.rows.items in
    let e = c.note_reply.ensures in
    let f = c.settle_by_reply.ensures in
    let m : KeepsPlaces mid new = places_goes mid new f.settles in
    let whole : KeepsPlaces rows new = places_both rows mid new e.places m in
    let o = outcome_of c.args.outcome in
    let ask = c.args.asking in
    let last = c.give_up_open.new.table in
    let g = c.give_up_open.ensures in
    record {
      fits = g.fits;
      opens = fits_moved new last.rows.items att g.places (fits_moved mid new att m e.opens);
      count = e.count;
      known = e.known;
      session = g.session ∙ f.session ∙ e.session;
      places = places_both rows new last.rows.items whole g.places;
      shown = λ d reply place s a k live kept status named first none after. (
          let n : Client = noted_full (noted d x o reply.body) x ask reply.status in
          let w =
          subst (λ (i : ℕ). ShowsTable c.note_reply.new.table (noted_full (noted d x o reply.body) x ask i)
          × ShowsAttached mid att (noted_full (noted d x o reply.body) x ask i)
          × ShowsOpened mid opened (noted_full (noted d x o reply.body) x ask i)) (sym status)
          (e.shown d reply.body s a k live (kept.ordered.itself x) named) in
          let quiet : n.outstanding_on x ≡ None =
          note_any (λ (z : Client). z.outstanding_on x ≡ None) (λ z h p. p) d x o reply.body ask reply.status none
          (λ h i. none) (λ h. none) in
          let firstly : IsClientFirst (ops_of n) (standing_of n) x =
          note_any (λ (z : Client). IsClientFirst (ops_of z) (standing_of z) x) (λ z h p. p) d x o reply.body ask reply.status first
          (λ h i. first) (λ h. first) in
          let z0 : Client = settled n x o place in
          let table : ShowsTable behind z0 =
          table_settled behind.session new behind.holders.items behind.prices behind.watchers behind.ops.items behind.settled.items
          behind.order.items behind.dialogs.items n x place o quiet (f.shown n w.0 firstly) in
          let attached : ShowsAttached new att z0 = shown_moved mid new att m n.attached n.slot_user n.retried n.full w.1 in
          let known : ShowsOpened new opened z0 = known_moved mid new opened m n.op n.file n.closed_ok n.sent n.slot_of w.2 in
          let test : settles_open (d.op x) ≡ true =
          (λ i. ((create_at rows t.holders.items t.prices t.watchers d x r.above r.within s.rows
          ∙ ap (λ (y : Kind). is_create_kind y) (sym (whole.kinds x))) i)
          || ((close_at rows t.holders.items t.prices t.watchers d x r.above r.within s.rows
          ∙ ap (λ (y : Kind). is_close_kind y) (sym (whole.kinds x))) i)) ∙ sym c.settles_open.ensures ∙ c.if-settles_open.true in
          let is = ap (λ b. if b then with_no_opens z0 (create_for d x) else z0) test in
          let ops : n.op ≡ d.op =
          note_any (λ (z : Client). z.op ≡ d.op) (λ z h p. p) d x o reply.body ask reply.status refl (λ h i. refl) (λ h. refl) in
          let own : create_for z0 x ≡ create_for d x = ap (λ (h : ℕ → Op). create_of x (h x)) ops in
          let makes : is_create (z0.op (create_for z0 x)) ≡ true =
          subst (λ (h : ℕ → Op). is_create (h (create_of x (h x))) ≡ true) (sym ops)
          (its_create d x kept r.above (s.rows.places.is_taken x r.above r.within)) in
          let keeps : TableKept (with_no_opens z0 (create_for z0 x)) =
          subst (λ (y : ℕ). TableKept (with_no_opens z0 y)) (sym own) (subst (λ (z : Client). TableKept z) is after) in
          subst (λ (z : Client). ShowsTable last z × ShowsAttached last.rows.items att z × ShowsOpened last.rows.items opened z) (sym is) (
            subst (λ (y : ℕ). ShowsTable last (with_no_opens z0 y)) own (g.shown z0 table attached known makes keeps),
            shown_moved new last.rows.items att g.places n.attached n.slot_user n.retried n.full attached,
            known_moved new last.rows.items opened g.places n.op n.file n.closed_ok n.sent n.slot_of known,
          )
          );
    }

pub returns-else-settles_open : goal.returns-else-settles_open
returns-else-settles_open c =
    let r = c.requires in
    let x = c.args.index in
    let t = c.args.table.now in
    let rows = t.rows.items in
    let mid = c.note_reply.new.table.rows.items in
    let att = c.note_reply.new.attached in
    let opened = c.note_reply.new.opened in
    let behind = c.settle_by_reply.new.self in
    let new = behind.rows.items in
    let e = c.note_reply.ensures in
    let f = c.settle_by_reply.ensures in
    let m : KeepsPlaces mid new = places_goes mid new f.settles in
    let whole : KeepsPlaces rows new = places_both rows mid new e.places m in
    let o = outcome_of c.args.outcome in
    let ask = c.args.asking in
    record {
      fits = f.fits;
      opens = fits_moved mid new att m e.opens;
      count = e.count;
      known = e.known;
      session = f.session ∙ e.session;
      places = whole;
      shown = λ d reply place s a k live kept status named first none after. (
          let n : Client = noted_full (noted d x o reply.body) x ask reply.status in
          let w =
          subst (λ (i : ℕ). ShowsTable c.note_reply.new.table (noted_full (noted d x o reply.body) x ask i)
          × ShowsAttached mid att (noted_full (noted d x o reply.body) x ask i)
          × ShowsOpened mid opened (noted_full (noted d x o reply.body) x ask i)) (sym status)
          (e.shown d reply.body s a k live (kept.ordered.itself x) named) in
          let quiet : n.outstanding_on x ≡ None =
          note_any (λ (z : Client). z.outstanding_on x ≡ None) (λ z h p. p) d x o reply.body ask reply.status none
          (λ h i. none) (λ h. none) in
          let firstly : IsClientFirst (ops_of n) (standing_of n) x =
          note_any (λ (z : Client). IsClientFirst (ops_of z) (standing_of z) x) (λ z h p. p) d x o reply.body ask reply.status first
          (λ h i. first) (λ h. first) in
          let z0 : Client = settled n x o place in
          let table : ShowsTable behind z0 =
          table_settled behind.session new behind.holders.items behind.prices behind.watchers behind.ops.items behind.settled.items
          behind.order.items behind.dialogs.items n x place o quiet (f.shown n w.0 firstly) in
          let attached : ShowsAttached new att z0 = shown_moved mid new att m n.attached n.slot_user n.retried n.full w.1 in
          let known : ShowsOpened new opened z0 = known_moved mid new opened m n.op n.file n.closed_ok n.sent n.slot_of w.2 in
          let test : settles_open (d.op x) ≡ false =
          (λ i. ((create_at rows t.holders.items t.prices t.watchers d x r.above r.within s.rows
          ∙ ap (λ (y : Kind). is_create_kind y) (sym (whole.kinds x))) i)
          || ((close_at rows t.holders.items t.prices t.watchers d x r.above r.within s.rows
          ∙ ap (λ (y : Kind). is_close_kind y) (sym (whole.kinds x))) i)) ∙ sym c.settles_open.ensures ∙ c.if-settles_open.false in
          let is = ap (λ b. if b then with_no_opens z0 (create_for d x) else z0) test in
          subst (λ (z : Client). ShowsTable behind z × ShowsAttached new att z × ShowsOpened new opened z) (sym is) (table, attached, known)
          );
    }
