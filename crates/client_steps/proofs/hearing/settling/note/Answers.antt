use Rattle.std.proofs.Common.{refl, sym, ◌∙◌, subst}
use Rattle.spec_exchange.specs.Client.{Client}
use Rattle.client_values.specs.outcomes.Meaning.{outcome_of}
use Rattle.client_tables.specs.whole_table.Shown.{ShowsTable}
use Rattle.client_tables.specs.attached_opens.Known.{ShowsOpened}
use Rattle.client_tables.specs.attached_opens.Opens.{ShowsAttached}
use Rattle.client_tables.proofs.attached_opens.Kept.{places_none}
use Rattle.client_steps.proofs.hearing.Noted.{notes_nothing, notes_success}
use Rattle.client_steps.proofs.hearing.settling.note.Goals as goal

pub returns-then-is_ok : goal.returns-then-is_ok
returns-then-is_ok c =
    let e = c.note_ok.ensures in
    let next = c.note_ok.new.table in
    let o = outcome_of c.args.outcome.now in
    record {
      fits = e.fits;
      opens = e.opens;
      count = e.count;
      known = e.known;
      session = e.session;
      places = e.places;
      stand = e.stand;
      shown = λ d body s a k live itself named.
          subst (λ (z : Client). ShowsTable next z × ShowsAttached next.rows.items c.note_ok.new.attached z
          × ShowsOpened next.rows.items c.note_ok.new.opened z)
          (sym (notes_success d c.args.index o body (sym c.is_ok.ensures ∙ c.if-is_ok.true))) (e.shown d body s a k live itself named);
    }

pub returns-else-is_ok : goal.returns-else-is_ok
returns-else-is_ok c =
    let t = c.args.table.now in
    let r = c.requires in
    let o = outcome_of c.args.outcome.now in
    record {
      fits = r.fits;
      opens = r.opens;
      count = refl;
      known = refl;
      session = refl;
      places = places_none t.rows.items;
      stand = λ g. refl;
      shown = λ d body s a k live itself named.
          subst (λ (z : Client). ShowsTable t z × ShowsAttached t.rows.items c.args.attached.now z
          × ShowsOpened t.rows.items c.args.opened.now z)
          (sym (notes_nothing d c.args.index o body (sym c.is_ok.ensures ∙ c.if-is_ok.false))) (s, a, k);
    }
