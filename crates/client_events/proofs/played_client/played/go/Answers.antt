use Rattle.spec_exchange.specs.ClientStep.{client_after}
use Rattle.law_client.proofs.table.Events.{keeps}
use Rattle.client_events.specs.event_calls.Events.{event_of}
use Rattle.client_events.proofs.event_calls.Going.{may_each, means_own}
use Rattle.client_events.proofs.played_client.played.go.Goals as goal

pub step-requires : goal.step-requires
step-requires c = record { fits = c.requires.holds.fits }

pub returns-in-Ok : goal.returns-in-Ok
returns-in-Ok c =
    let h = c.requires.holds in
    let e = event_of h.model c.args.event in
    let m = c.requires.comes h.model h.shown h.kept in
    record {
      holds = record {
        fits = c.step.ensures.fits;
        model = client_after h.model e;
        shown = c.in-Ok.ensures.shown h.model e h.shown h.kept (means_own h.model c.args.event) m.0;
        kept = keeps h.model e h.kept m.1;
      };
      shown = λ d v s k w. c.in-Ok.ensures.shown d v s k w (may_each d c.args.event v w (c.requires.comes d s k).0);
      told = λ d v s k w. c.in-Ok.ensures.told d v s k w;
      kept = tt;
      lacks = tt;
    }

pub returns-in-Err : goal.returns-in-Err
returns-in-Err c =
    let h = c.requires.holds in
    record {
      holds = record {
        fits = c.step.ensures.fits;
        model = h.model;
        shown = c.in-Err.ensures.kept h.model h.shown;
        kept = h.kept;
      };
      shown = tt;
      told = tt;
      kept = λ d s. c.in-Err.ensures.kept d s;
      lacks = λ d s k. c.in-Err.ensures.lacks d s k;
    }
