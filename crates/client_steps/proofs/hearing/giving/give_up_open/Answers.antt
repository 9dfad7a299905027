use Rattle.std.proofs.Common.{◌≡◌, ℕ, ◌<◌, true, false, length, get_or, refl, sym, ap, ◌∙◌, subst}
use Rattle.spec_exchange.specs.Operations.{is_create, persists}
use Rattle.spec_exchange.specs.Client.{create_for, is_gone}
use Rattle.spec_exchange.specs.Settling.{with_no_opens}
use Rattle.law_client.specs.table.Kept.{TableKept}
use Rattle.client_rows.specs.operation_rows.Rows.{row_at}
use Rattle.client_tables.specs.declared.choice.finding.Attached.{Attached}
use Rattle.client_tables.specs.choice.Shown.{IsChoiceAt}
use Rattle.client_tables.specs.whole_table.Shown.{ShowsTable}
use Rattle.client_tables.specs.attached_opens.Known.{IsKnownAt}
use Rattle.client_tables.proofs.attached_opens.Kept.{places_goes, places_none}
use Rattle.client_steps.proofs.unsent.Given.{table_alike, table_itself}
use Rattle.client_steps.proofs.hearing.Known.{known_at, none_known}
use Rattle.client_steps.proofs.hearing.Noted.{none_gives_up}
use Rattle.client_steps.proofs.hearing.giving.give_up_open.Goals as goal

pub bounds-attached-at : goal.bounds-attached-at
bounds-attached-at c =
    subst (λ y. y < length c.args.attached.now) (sym c.open_of-at.ensures)
    (c.requires.opens.opens c.args.index c.requires.above c.requires.within)

pub bounds-opened-at : goal.bounds-opened-at
bounds-opened-at c =
    subst (λ n. c.open_of-at.result < n) (sym c.requires.known)
    (subst (λ y. y < length c.args.attached.now) (sym c.open_of-at.ensures)
    (c.requires.opens.opens c.args.index c.requires.above c.requires.within))

pub is_gone_now-requires : goal.is_gone_now-requires
is_gone_now-requires c =
    let w = c.requires.fits.owned c.args.index c.requires.above c.requires.within in
    record {
      fits = c.requires.fits;
      above = subst (λ y. 0 < y) (sym c.create_of-create.ensures) w.0;
      within = subst (λ y. y < length c.args.table.now.rows.items) (sym c.create_of-create.ensures) w.1;
    }

pub give_up_opened-requires : goal.give_up_opened-requires
give_up_opened-requires c =
    let w = c.requires.fits.owned c.args.index c.requires.above c.requires.within in
    record {
      fits = c.requires.fits;
      later = c.requires.later;
      above = subst (λ y. 0 < y) (sym c.create_of-create.ensures) w.0;
      within = subst (λ y. y < length c.args.table.now.rows.items) (sym c.create_of-create.ensures) w.1;
    }

pub returns-then-is_gone_now : goal.returns-then-is_gone_now
returns-then-is_gone_now c =
    let t = c.args.table.now in
    let rows = t.rows.items in
    let opened = c.args.opened.now in
    let x = c.args.index in
    let r = c.requires in
    let e = c.give_up_opened.ensures in
    let next = c.give_up_opened.new.table in
    let at = c.open_of-at.result in
    let y = c.create_of-create.result in
    let own : Attached = c.index-attached-at.result in
    let is : IsChoiceAt c.args.attached.now (row_at rows x).«open» own =
    subst (λ (i : ℕ). IsChoiceAt c.args.attached.now i own) c.open_of-at.ensures c.index-attached-at.is in
    let known = get_or opened at none_known in
    let placed : (row_at rows x).«open» < length opened =
    subst (λ n. (row_at rows x).«open» < n) (sym r.known) (r.opens.opens x r.above r.within) in
    let isk : IsKnownAt opened (row_at rows x).«open» known = known_at opened (row_at rows x).«open» at c.open_of-at.ensures placed in
    record {
      fits = e.fits;
      session = e.session;
      places = places_goes rows next.rows.items e.settles;
      shown = λ d s a k makes kept. (
          let on : create_for d x ≡ y =
          s.rows.places.creates x r.above (s.rows.places.is_taken x r.above r.within) ∙ sym c.create_of-create.ensures in
          let gone : is_gone d y ≡ true =
          sym (c.is_gone_now.ensures d s (ap (λ i. d.attached i) c.create_of-create.ensures ∙ a.session_is x own r.above r.within is)
          (ap (λ i. d.closed_ok i) c.create_of-create.ensures ∙ k.closed_is x known r.above r.within isk)
          (ap (λ i. persists (d.op i)) c.create_of-create.ensures ∙ k.persists_is x known r.above r.within isk))
          ∙ c.if-is_gone_now.true in
          subst (λ (i : ℕ). ShowsTable next (with_no_opens d i)) (sym on)
          (e.shown d gone (subst (λ (i : ℕ). is_create (d.op i) ≡ true) on makes)
          (subst (λ (i : ℕ). TableKept (with_no_opens d i)) on kept) s)
          );
    }

pub returns-else-is_gone_now : goal.returns-else-is_gone_now
returns-else-is_gone_now c =
    let t = c.args.table.now in
    let rows = t.rows.items in
    let opened = c.args.opened.now in
    let x = c.args.index in
    let r = c.requires in
    let at = c.open_of-at.result in
    let y = c.create_of-create.result in
    let own : Attached = c.index-attached-at.result in
    let is : IsChoiceAt c.args.attached.now (row_at rows x).«open» own =
    subst (λ (i : ℕ). IsChoiceAt c.args.attached.now i own) c.open_of-at.ensures c.index-attached-at.is in
    let known = get_or opened at none_known in
    let placed : (row_at rows x).«open» < length opened =
    subst (λ n. (row_at rows x).«open» < n) (sym r.known) (r.opens.opens x r.above r.within) in
    let isk : IsKnownAt opened (row_at rows x).«open» known = known_at opened (row_at rows x).«open» at c.open_of-at.ensures placed in
    record {
      fits = r.fits;
      session = refl;
      places = places_none rows;
      shown = λ d s a k makes kept. (
          let on : create_for d x ≡ y =
          s.rows.places.creates x r.above (s.rows.places.is_taken x r.above r.within) ∙ sym c.create_of-create.ensures in
          let stays : is_gone d y ≡ false =
          sym (c.is_gone_now.ensures d s (ap (λ i. d.attached i) c.create_of-create.ensures ∙ a.session_is x own r.above r.within is)
          (ap (λ i. d.closed_ok i) c.create_of-create.ensures ∙ k.closed_is x known r.above r.within isk)
          (ap (λ i. persists (d.op i)) c.create_of-create.ensures ∙ k.persists_is x known r.above r.within isk))
          ∙ c.if-is_gone_now.false in
          subst (λ (i : ℕ). ShowsTable t (with_no_opens d i)) (sym on)
          (table_alike t.session rows t.holders.items t.prices t.watchers t.ops.items t.settled.items t.order.items t.dialogs.items d
          d.outcome (with_no_opens d y).outcome (λ g p l. none_gives_up d y g stays)
          (table_itself t.session rows t.holders.items t.prices t.watchers t.ops.items t.settled.items t.order.items t.dialogs.items d s))
          );
    }
