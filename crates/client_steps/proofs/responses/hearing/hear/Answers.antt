use Rattle.std.proofs.Common.{◌≡◌, ◌<◌, not, true, false, if◌then◌else◌, None, refl, sym, ap, ◌∙◌, subst}
use Rattle.spec_exchange.specs.Client.{Client}
use Rattle.spec_exchange.specs.ClientStep.{CloseChannels, Nothing, hear_after}
use Rattle.spec_exchange.specs.Settling.{Heard, answered, heard, is_awaited}
use Rattle.law_client.specs.table.Kept.{TableKept}
use Rattle.law_client.proofs.table.Replies.{answered_keeps, hear_keeps}
use Rattle.client_rows.specs.operation_rows.Rows.{stands}
use Rattle.client_rows.proofs.operation_rows.Walking.{put_at}
use Rattle.client_values.specs.outcomes.Hearing.{hearing_of}
use Rattle.client_tables.specs.whole_table.Shown.{ShowsTable}
use Rattle.client_tables.specs.attached_opens.Known.{ShowsOpened}
use Rattle.client_tables.specs.attached_opens.Opens.{ShowsAttached}
use Rattle.client_tables.specs.attached_opens.Places.{KeepsPlaces}
use Rattle.client_tables.proofs.attached_opens.Kept.{places_both, places_none, places_step}
use Rattle.client_tables.proofs.attached_opens.Known.{known_moved}
use Rattle.client_tables.proofs.attached_opens.Moved.{fits_moved, shown_moved}
use Rattle.client_steps.proofs.hearing.Noted.{ascends_moved}
use Rattle.client_steps.specs.responses.Reading.{response_ends, heard_then}
use Rattle.client_steps.proofs.responses.Heard.{act_not, act_so, heard_so, hears, hears_not, highest_moved, out_of}
use Rattle.client_steps.proofs.responses.hearing.hear.Goals as goal

pub returns-then-not-is_awaited : goal.returns-then-not-is_awaited
returns-then-not-is_awaited c =
    let t = c.args.table.now in
    let rows = t.rows.items in
    let x = c.args.index in
    let k = c.args.channel in
    let ask = c.args.asking in
    let r = c.requires in
    record {
      fits = r.fits;
      opens = r.opens;
      count = refl;
      known = refl;
      places = places_none rows;
      shown = λ d reply place s a o kept reads.
          subst (λ (z : Client). ShowsTable t z × ShowsAttached rows c.args.attached.now z × ShowsOpened rows c.args.opened.now z)
          (sym (hears_not d k x ask reply place (sym (c.is_awaited.ensures.told d s kept) ∙ c.if-not-is_awaited.true))) (s, a, o);
      told = λ d reply s kept reads. act_not d k x ask reply (sym (c.is_awaited.ensures.told d s kept) ∙ c.if-not-is_awaited.true);
    }

pub weigh_at-hearing-requires : goal.weigh_at-hearing-requires
weigh_at-hearing-requires c =
    let i = c.is_awaited.ensures.inside c.if-not-is_awaited.false in record { fits = c.requires.fits; above = i.0; within = i.1 }

pub answer_at-requires : goal.answer_at-requires
answer_at-requires c =
    let i = c.is_awaited.ensures.inside c.if-not-is_awaited.false in record { fits = c.requires.fits; within = i.1 }

pub carry_out-requires : goal.carry_out-requires
carry_out-requires c =
    let r = c.requires in
    let i = c.is_awaited.ensures.inside c.if-not-is_awaited.false in
    let rows = c.args.table.now.rows.items in
    let new = c.answer_at.new.table.rows.items in
    let x = c.args.index in
    let e = c.answer_at.ensures in
    let m : KeepsPlaces rows new = places_step rows new x e.place in
    record {
      fits = e.fits;
      opens = fits_moved rows new c.args.attached.now m r.opens;
      known = r.known;
      later = ascends_moved rows new c.args.later.now m r.later;
      above = i.0;
      within = subst (λ n. x < n) (sym e.place.count) i.1;
      unsettled = e.place.unsettled x ∙ i.2;
      last = highest_moved rows new x c.args.last e.place.count e.place.create (r.last i.0 i.1);
    }

pub returns : goal.returns
returns c =
    let r = c.requires in
    let t = c.args.table.now in
    let rows = t.rows.items in
    let mid = c.answer_at.new.table.rows.items in
    let next = c.carry_out.new.table in
    let x = c.args.index in
    let k = c.args.channel in
    let ask = c.args.asking in
    let attached = c.args.attached.now in
    let opened = c.args.opened.now in
    let e = c.answer_at.ensures in
    let f = c.carry_out.ensures in
    let m : KeepsPlaces rows mid = places_step rows mid x e.place in
    record {
      fits = f.fits;
      opens = f.opens;
      count = f.count;
      known = f.known;
      places = places_both rows mid next.rows.items m f.places;
      shown = λ d reply place s a o kept reads. (
          let awaited : is_awaited d k x ask ≡ true = sym (c.is_awaited.ensures.told d s kept) ∙ c.if-not-is_awaited.false in
          let out = out_of k (d.outstanding_on x) (if d.asks_attach x then ask else not ask) awaited in
          let h = c.weigh_at-hearing.ensures d reply s reads.status_is reads.reply_is in
          let whole : heard_then (answered d x) x ask reply place (hearing_of c.weigh_at-hearing.result)
          ≡ hear_after d k x ask reply place =
          ap (λ (z : Heard). heard_then (answered d x) x ask reply place z) h ∙ heard_so d x ask reply place (heard d x ask reply)
          ∙ sym (hears d k x ask reply place awaited) in
          let w = f.shown (answered d x) reply place (e.shown d s)
          (shown_moved rows mid attached m d.attached d.slot_user d.retried d.full a)
          (known_moved rows mid opened m d.op d.file d.closed_ok d.sent d.slot_of o) (kept.stands.out_live x out)
          (answered_keeps d x kept) reads.status_is reads.file_is (kept.stands.out_first x out)
          (put_at d.outstanding_on x None x refl)
          (subst (λ (z : Client). TableKept z) (sym whole) (hear_keeps d k x ask reply place kept)) in
          subst (λ (z : Client). ShowsTable next z × ShowsAttached next.rows.items c.carry_out.new.attached z
          × ShowsOpened next.rows.items c.carry_out.new.opened z) whole w
          );
      told = λ d reply s kept reads. (
          let awaited : is_awaited d k x ask ≡ true = sym (c.is_awaited.ensures.told d s kept) ∙ c.if-not-is_awaited.false in
          let h = c.weigh_at-hearing.ensures d reply s reads.status_is reads.reply_is in
          act_so d k x ask reply awaited
          ∙ ap (λ b. if b then CloseChannels else Nothing) (sym (f.told ∙ ap (λ (z : Heard). response_ends z) h))
          );
    }
