use Rattle.std.proofs.Common.{◌<◌, sym, ◌∙◌, subst}
use Rattle.spec_exchange.specs.Settling.{noted}
use Rattle.client_values.specs.outcomes.Meaning.{outcome_of}
use Rattle.client_steps.proofs.hearing.settling.note_reply.Goals as goal

pub fill-requires : goal.fill-requires
fill-requires c =
    let e = c.note.ensures in
    record {
      fits = e.fits;
      opens = e.opens;
      above = c.requires.above;
      within = subst (λ n. c.args.index < n) (sym e.places.count) c.requires.within;
    }

pub returns : goal.returns
returns c =
    let e = c.note.ensures in
    let f = c.fill.ensures in
    let o = outcome_of c.args.outcome.now in
    record {
      fits = e.fits;
      opens = f.opens;
      count = f.count ∙ e.count;
      known = e.known;
      session = e.session;
      places = e.places;
      stand = e.stand;
      shown = λ d body s a k live itself named. (
          let w = e.shown d body s a k live itself named in
          f.shown (noted d c.args.index o body) c.note.new.opened w.0 w.1 w.2
          );
    }
