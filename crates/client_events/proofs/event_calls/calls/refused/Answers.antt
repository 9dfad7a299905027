use Rattle.std.proofs.Common.{refl}
use Rattle.client_events.proofs.event_calls.calls.refused.Goals as goal

pub refused-requires : goal.refused-requires
refused-requires c = record { fits = c.requires.fits }

pub returns-in-Ok : goal.returns-in-Ok
returns-in-Ok c =
    record {
      fits = c.refused.ensures.fits;
      shown = λ d s k m. c.in-Ok.ensures.shown d s;
      told = λ d s k. refl;
      kept = tt;
    }

pub returns-in-Err : goal.returns-in-Err
returns-in-Err c =
    record {
      fits = c.refused.ensures.fits;
      shown = tt;
      told = tt;
      kept = λ d s. c.in-Err.ensures.kept d s;
    }
