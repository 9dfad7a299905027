use Rattle.std.proofs.Common.{sym, ap, ◌∙◌, if◌then◌else◌}
use Rattle.spec_exchange.specs.ClientStep.{CloseChannel, Nothing}
use Rattle.client_steps.proofs.responses.Heard.{clash}
use Rattle.client_events.proofs.event_calls.Going.{again_shown, own_so}
use Rattle.client_events.proofs.event_calls.calls.ready.Goals as goal

pub returns-then-is_ready : goal.returns-then-is_ready
returns-then-is_ready c =
    record {
      fits = c.requires.fits;
      shown = λ d s k m. again_shown c.args.client.now d c.args.channel c.args.session c.args.tree
          (m (sym (c.is_ready.ensures.shown d s) ∙ c.if-is_ready.true)) s;
      told = λ d s k. c.act_where.ensures
          ∙ ap (λ z. if z then Nothing else CloseChannel) (c.is_own-own.ensures d s
          ∙ own_so d c.args.session (k.ready c.args.channel (sym (c.is_ready.ensures.shown d s) ∙ c.if-is_ready.true)));
      stays = λ d s r. s;
    }

pub ready-stays-requires : goal.ready-stays-requires
ready-stays-requires c = record { fits = c.requires.fits; apart = sym c.is_ready.ensures.here ∙ c.if-is_ready.false }

pub returns : goal.returns
returns c =
    let e = c.ready-stays.ensures in
    record {
      fits = e.fits;
      shown = λ d s k m. e.shown d s;
      told = λ d s k. c.act_where-2.ensures ∙ ap (λ z. if z then Nothing else CloseChannel) (e.told d s);
      stays = λ d s r. absurd (clash (d.ready c.args.channel) r (sym (c.is_ready.ensures.shown d s) ∙ c.if-is_ready.false));
    }
