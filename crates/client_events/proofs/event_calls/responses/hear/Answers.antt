use Rattle.std.proofs.Common.{◌≡◌, false, sym, ap, ◌∙◌, subst}
use Rattle.std.proofs.lemmas.Result.{on_err_weaker}
use Rattle.spec_exchange.specs.Client.{Client}
use Rattle.spec_exchange.specs.ClientStep.{ClientEvent, act, client_after}
use Rattle.spec_exchange.specs.Settling.{is_awaited}
use Rattle.law_client.specs.table.Kept.{TableKept}
use Rattle.client_steps.specs.whole_client.Shown.{ShowsClient}
use Rattle.client_events.proofs.event_calls.Going.{unheard, unheard_act}
use Rattle.client_events.proofs.event_calls.responses.hear.Goals as goal

pub returns-then-not-is_awaited : goal.returns-then-not-is_awaited
returns-then-not-is_awaited c =
    let x = c.args.number in
    let k = c.args.channel in
    let asking = c.args.asking in
    let out : (d : Client) → ShowsClient c.args.client.now d → TableKept d → is_awaited d k x asking ≡ false =
    (λ d s i. sym (c.is_awaited.ensures.told d s.table i) ∙ c.if-not-is_awaited.true) in
    record {
      fits = c.requires.fits;
      shown = λ d v s i w m. subst (λ (z : ClientEvent). ShowsClient c.args.client.now (client_after d z)) (sym w.4)
          (unheard c.args.client.now d k x asking w.0 w.1 (out d s i) s);
      told = λ d v s i w. unheard_act d k x asking w.0 (out d s i) ∙ sym (ap (λ (z : ClientEvent). act d z) w.4);
      kept = tt;
      lacks = tt;
    }

pub hear_taken-requires : goal.hear_taken-requires
hear_taken-requires c =
    let i = c.is_awaited.ensures.inside c.if-not-is_awaited.false in
    record { fits = c.requires.fits; above = i.0; within = i.1 }

pub returns : goal.returns
returns c =
    let e = c.hear_taken.ensures in
    record {
      fits = e.fits;
      shown = e.shown;
      told = e.told;
      kept = e.kept;
      lacks = on_err_weaker c.hear_taken.result
          (λ w d s i. (
          let v = w d s in
          (sym (c.is_awaited.ensures.told d s.table i) ∙ c.if-not-is_awaited.false, v.0, v.1, v.2)
          )) e.lacks;
    }
