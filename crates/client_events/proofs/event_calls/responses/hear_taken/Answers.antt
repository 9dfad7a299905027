use Rattle.std.proofs.Common.{sym, ap, ◌∙◌, subst}
use Rattle.spec_exchange.specs.State.{Body}
use Rattle.spec_exchange.specs.Operations.{id_in, value_in}
use Rattle.spec_exchange.specs.Client.{Client}
use Rattle.spec_exchange.specs.ClientStep.{ClientEvent, act, client_after}
use Rattle.client_steps.specs.whole_client.Shown.{ShowsClient}
use Rattle.client_steps.specs.declared.responses.hearing.Response.{Response}
use Rattle.client_steps.specs.responses.Reading.{ResponseReads}
use Rattle.client_events.specs.declared.event_calls.steps.Event.TheVariants as events
use Rattle.client_events.specs.event_calls.Events.{Means}
use Rattle.client_events.proofs.event_calls.responses.hear_taken.Goals as goal

pub said_in-requires : goal.said_in-requires
said_in-requires c = record { fits = c.requires.fits; above = c.requires.above; within = c.requires.within }

pub hear-closes-requires : goal.hear-closes-requires
hear-closes-requires c = record { fits = c.requires.fits }

pub returns-in-Ok : goal.returns-in-Ok
returns-in-Ok c =
    let e = c.hear-closes.ensures in
    let g = c.args.index in
    let heard : Response = record { status = c.args.status; reply = c.in-Ok.reply; file = c.id_in-file.result } in
    let reads : (d : Client) (v : ClientEvent) → ShowsClient c.args.client.now d
    → (w : Means d (events.Hear c.args.channel g c.args.asking c.args.status c.args.body) v) → ResponseReads heard d g c.args.asking w.0 =
    (λ d v s w. record {
      status_is = w.2;
      reply_is = λ z a. c.in-Ok.ensures.reads d s (sym w.2 ∙ z) a ∙ ap (λ (b : Body). value_in (d.op g) b) (sym w.3);
      file_is = c.id_in-file.ensures ∙ ap (λ (b : Body). id_in b) (sym w.3);
    }) in
    record {
      fits = e.fits;
      shown = λ d v s k w m. subst (λ (z : ClientEvent). ShowsClient c.hear-closes.new.self (client_after d z)) (sym w.4)
          (e.shown d w.0 w.1 s k (reads d v s w));
      told = λ d v s k w. c.act_where.ensures ∙ sym (e.told d w.0 s k (reads d v s w)) ∙ sym (ap (λ (z : ClientEvent). act d z) w.4);
      kept = tt;
      lacks = tt;
    }

pub returns-in-Err : goal.returns-in-Err
returns-in-Err c =
    record {
      fits = c.requires.fits;
      shown = tt;
      told = tt;
      kept = λ d s. s;
      lacks = λ d s. c.in-Err.ensures.lacks d s;
    }
