use Rattle.std.proofs.Common.{refl, sym, ap, subst}
use Rattle.law_client.specs.table.Kept.{TableKept}
use Rattle.client_values.specs.declared.outcomes.hearing.Hearing.{Hearing}
use Rattle.client_values.specs.outcomes.Hearing.{hearing_of}
use Rattle.client_tables.specs.whole_table.Shown.{ShowsTable}
use Rattle.client_tables.specs.attached_opens.Known.{ShowsOpened}
use Rattle.client_tables.specs.attached_opens.Opens.{ShowsAttached}
use Rattle.client_tables.proofs.attached_opens.Kept.{places_none}
use Rattle.client_tables.proofs.attached_opens.Known.{known_moved}
use Rattle.client_tables.proofs.attached_opens.Moved.{fits_moved, shown_moved}
use Rattle.client_steps.specs.responses.Reading.{response_ends, heard_then}
use Rattle.client_steps.proofs.responses.hearing.carry_out.Goals as goal

pub returns-in-GoesAgain : goal.returns-in-GoesAgain
returns-in-GoesAgain c =
    let t = c.args.table.now in
    let rows = t.rows.items in
    let r = c.requires in
    let x = c.args.index in
    let ask = c.args.asking in
    record {
      fits = r.fits;
      opens = r.opens;
      count = refl;
      known = refl;
      places = places_none rows;
      shown = λ d reply place s a k live kept status named first none.
          subst (λ (h : Hearing). TableKept (heard_then d x ask reply place (hearing_of h))
          → ShowsTable t (heard_then d x ask reply place (hearing_of h))
          × ShowsAttached rows c.args.attached.now (heard_then d x ask reply place (hearing_of h))
          × ShowsOpened rows c.args.opened.now (heard_then d x ask reply place (hearing_of h))) (sym c.in-GoesAgain.is)
          (λ after. (s, a, k));
      told = sym (ap (λ (h : Hearing). response_ends (hearing_of h)) c.in-GoesAgain.is);
    }

pub returns-in-Attaches : goal.returns-in-Attaches
returns-in-Attaches c =
    let t = c.args.table.now in
    let rows = t.rows.items in
    let r = c.requires in
    let x = c.args.index in
    let ask = c.args.asking in
    let e = c.join_at.ensures in
    let next = c.join_at.new.table in
    let new = next.rows.items in
    record {
      fits = e.fits;
      opens = e.opens;
      count = e.count;
      known = refl;
      places = e.places;
      shown = λ d reply place s a k live kept status named first none.
          subst (λ (h : Hearing). TableKept (heard_then d x ask reply place (hearing_of h))
          → ShowsTable next (heard_then d x ask reply place (hearing_of h))
          × ShowsAttached new c.join_at.new.attached (heard_then d x ask reply place (hearing_of h))
          × ShowsOpened new c.args.opened.now (heard_then d x ask reply place (hearing_of h))) (sym c.in-Attaches.is)
          (λ after. (
          let w = e.shown d s a live in (
            w.0,
            w.1,
            known_moved rows new c.args.opened.now e.places d.op d.file d.closed_ok d.sent d.slot_of k,
          )
          ));
      told = sym (ap (λ (h : Hearing). response_ends (hearing_of h)) c.in-Attaches.is);
    }

pub returns-in-EndsSession : goal.returns-in-EndsSession
returns-in-EndsSession c =
    let t = c.args.table.now in
    let rows = t.rows.items in
    let r = c.requires in
    let x = c.args.index in
    let ask = c.args.asking in
    let e = c.end_here.ensures in
    let next = c.end_here.new.table in
    let new = next.rows.items in
    record {
      fits = e.fits;
      opens = fits_moved rows new c.args.attached.now e.places r.opens;
      count = refl;
      known = refl;
      places = e.places;
      shown = λ d reply place s a k live kept status named first none.
          subst (λ (h : Hearing). TableKept (heard_then d x ask reply place (hearing_of h))
          → ShowsTable next (heard_then d x ask reply place (hearing_of h))
          × ShowsAttached new c.args.attached.now (heard_then d x ask reply place (hearing_of h))
          × ShowsOpened new c.args.opened.now (heard_then d x ask reply place (hearing_of h))) (sym c.in-EndsSession.is)
          (λ after. (
            e.shown d s kept,
            shown_moved rows new c.args.attached.now e.places d.attached d.slot_user d.retried d.full a,
            known_moved rows new c.args.opened.now e.places d.op d.file d.closed_ok d.sent d.slot_of k,
          ));
      told = sym (ap (λ (h : Hearing). response_ends (hearing_of h)) c.in-EndsSession.is);
    }

pub returns-in-Settles : goal.returns-in-Settles
returns-in-Settles c =
    let t = c.args.table.now in
    let rows = t.rows.items in
    let r = c.requires in
    let x = c.args.index in
    let ask = c.args.asking in
    let e = c.settle_heard.ensures in
    let next = c.settle_heard.new.table in
    let new = next.rows.items in
    record {
      fits = e.fits;
      opens = e.opens;
      count = e.count;
      known = e.known;
      places = e.places;
      shown = λ d reply place s a k live kept status named first none.
          subst (λ (h : Hearing). TableKept (heard_then d x ask reply place (hearing_of h))
          → ShowsTable next (heard_then d x ask reply place (hearing_of h))
          × ShowsAttached new c.settle_heard.new.attached (heard_then d x ask reply place (hearing_of h))
          × ShowsOpened new c.settle_heard.new.opened (heard_then d x ask reply place (hearing_of h))) (sym c.in-Settles.is)
          (λ after. e.shown d reply place s a k live kept status named first none after);
      told = sym (ap (λ (h : Hearing). response_ends (hearing_of h)) c.in-Settles.is);
    }
