use Rattle.std.proofs.Common.{ap, ◌∙◌}
use Rattle.client_events.specs.event_calls.Events.{act_at_cut}
use Rattle.client_events.proofs.event_calls.Going.{cut_so}
use Rattle.client_events.proofs.event_calls.calls.cut.Goals as goal

pub cut-requires : goal.cut-requires
cut-requires c = record { fits = c.requires.fits }

pub returns : goal.returns
returns c =
    let e = c.cut.ensures in
    record {
      fits = e.fits;
      shown = λ d s k m. e.shown d s k;
      told = λ d s k. c.act_of_cut.ensures ∙ ap (λ z. act_at_cut z) (e.told d s) ∙ cut_so d c.args.channel;
    }
