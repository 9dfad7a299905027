use Rattle.std.proofs.Common.{refl}
use Rattle.client_events.proofs.event_calls.calls.submit.Goals as goal

pub submit-requires : goal.submit-requires
submit-requires c = record { fits = c.requires.fits }

pub returns-in-Ok : goal.returns-in-Ok
returns-in-Ok c =
    record {
      fits = c.submit.ensures.fits;
      shown = λ d s k m. c.in-Ok.ensures.shown d s k;
      told = λ d s k. refl;
      kept = tt;
      lacks = tt;
    }

pub returns-in-Err : goal.returns-in-Err
returns-in-Err c =
    record {
      fits = c.submit.ensures.fits;
      shown = tt;
      told = tt;
      kept = λ d s. c.in-Err.ensures.kept d s;
      lacks = λ d s k. c.in-Err.ensures.order d s;
    }
