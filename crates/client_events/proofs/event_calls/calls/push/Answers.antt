use Rattle.std.proofs.Common.{◌∙◌}
use Rattle.client_events.proofs.event_calls.calls.push.Goals as goal

pub push-requires : goal.push-requires
push-requires c = record { fits = c.requires.fits }

pub returns : goal.returns
returns c =
    let e = c.push.ensures in
    record {
      fits = e.fits;
      shown = λ d s k m. e.shown d s k;
      told = λ d s k. c.act_of_push.ensures ∙ e.told d s k;
    }
