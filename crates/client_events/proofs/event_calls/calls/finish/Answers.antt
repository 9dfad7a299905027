use Rattle.std.proofs.Common.{refl}
use Rattle.client_events.proofs.event_calls.calls.finish.Goals as goal

pub finish-requires : goal.finish-requires
finish-requires c = record { fits = c.requires.fits }

pub returns : goal.returns
returns c =
    let e = c.finish.ensures in
    record {
      fits = e.fits;
      shown = λ d s k m. e.shown d s;
      told = λ d s k. refl;
    }
