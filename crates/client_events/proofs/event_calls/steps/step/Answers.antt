use Rattle.std.proofs.Common.{sym, subst}
use Rattle.std.specs.Prelude.{IfOk, OnErr, OnOk}
use Rattle.std.proofs.lemmas.Result.{IfOk-weaker, on_ok_weaker}
use Rattle.client_tables.proofs.whole_table.Ready.{on_err}
use Rattle.client_events.specs.declared.event_calls.steps.Event.{Event}
use Rattle.client_events.specs.event_calls.Events.{IsClientEventOther, ClientEventLacks, ShowsOne, ShowsStep}
use Rattle.client_events.specs.event_calls.Events.{StaysReady, ClientEventTells, TellsOne}
use Rattle.client_events.proofs.event_calls.Going.{shown_each, told_each}
use Rattle.client_events.proofs.event_calls.steps.step.Goals as goal

pub submit-requires : goal.submit-requires
submit-requires c = record { fits = c.requires.fits }

pub returns-in-Submit : goal.returns-in-Submit
returns-in-Submit c =
    let x = c.args.client.now in
    let e = c.submit.ensures in
    let v = c.args.event in
    let o = subst (λ (z : Event). IsClientEventOther z) (sym c.in-Submit.is) tt in
    record {
      fits = e.fits;
      shown = on_ok_weaker c.submit.result (λ h. shown_each x c.submit.new.client v h o)
          (subst (λ (z : Event). OnOk c.submit.result (ShowsOne x c.submit.new.client z)) (sym c.in-Submit.is) e.shown);
      told = IfOk-weaker c.submit.result (λ a. TellsOne x v a) (λ a. ClientEventTells x v a) (λ a h. told_each x v a h o)
          (subst (λ (z : Event). IfOk c.submit.result (λ a. TellsOne x z a)) (sym c.in-Submit.is) e.told);
      kept = e.kept;
      lacks = subst (λ (v : Event). OnErr c.submit.result (ClientEventLacks x v)) (sym c.in-Submit.is) e.lacks;
      stays = subst (λ (v : Event). StaysReady x c.submit.new.client v) (sym c.in-Submit.is) tt;
    }

pub push-requires : goal.push-requires
push-requires c = record { fits = c.requires.fits }

pub returns-in-Push : goal.returns-in-Push
returns-in-Push c =
    let x = c.args.client.now in
    let e = c.push.ensures in
    let v = c.args.event in
    let o = subst (λ (z : Event). IsClientEventOther z) (sym c.in-Push.is) tt in
    record {
      fits = e.fits;
      shown = shown_each x c.push.new.client v (subst (λ (z : Event). ShowsOne x c.push.new.client z) (sym c.in-Push.is) e.shown) o;
      told = told_each x v c.push.result (subst (λ (z : Event). TellsOne x z c.push.result) (sym c.in-Push.is) e.told) o;
      kept = tt;
      lacks = tt;
      stays = subst (λ (v : Event). StaysReady x c.push.new.client v) (sym c.in-Push.is) tt;
    }

pub hear-requires : goal.hear-requires
hear-requires c = record { fits = c.requires.fits }

pub returns-in-Hear : goal.returns-in-Hear
returns-in-Hear c =
    let x = c.args.client.now in
    let e = c.hear.ensures in
    record {
      fits = e.fits;
      shown = subst (λ (v : Event). OnOk c.hear.result (ShowsStep x c.hear.new.client v)) (sym c.in-Hear.is) e.shown;
      told = subst (λ (v : Event). IfOk c.hear.result (λ a. ClientEventTells x v a)) (sym c.in-Hear.is) e.told;
      kept = e.kept;
      lacks = subst (λ (v : Event). OnErr c.hear.result (ClientEventLacks x v)) (sym c.in-Hear.is) e.lacks;
      stays = subst (λ (v : Event). StaysReady x c.hear.new.client v) (sym c.in-Hear.is) tt;
    }

pub cut-requires : goal.cut-requires
cut-requires c = record { fits = c.requires.fits }

pub returns-in-Cut : goal.returns-in-Cut
returns-in-Cut c =
    let x = c.args.client.now in
    let e = c.cut.ensures in
    let v = c.args.event in
    let o = subst (λ (z : Event). IsClientEventOther z) (sym c.in-Cut.is) tt in
    record {
      fits = e.fits;
      shown = shown_each x c.cut.new.client v (subst (λ (z : Event). ShowsOne x c.cut.new.client z) (sym c.in-Cut.is) e.shown) o;
      told = told_each x v c.cut.result (subst (λ (z : Event). TellsOne x z c.cut.result) (sym c.in-Cut.is) e.told) o;
      kept = tt;
      lacks = tt;
      stays = subst (λ (v : Event). StaysReady x c.cut.new.client v) (sym c.in-Cut.is) tt;
    }

pub ready-requires : goal.ready-requires
ready-requires c = record { fits = c.requires.fits }

pub returns-in-Ready : goal.returns-in-Ready
returns-in-Ready c =
    let x = c.args.client.now in
    let e = c.ready.ensures in
    let v = c.args.event in
    let o = subst (λ (z : Event). IsClientEventOther z) (sym c.in-Ready.is) tt in
    record {
      fits = e.fits;
      shown = shown_each x c.ready.new.client v (subst (λ (z : Event). ShowsOne x c.ready.new.client z) (sym c.in-Ready.is) e.shown) o;
      told = told_each x v c.ready.result (subst (λ (z : Event). TellsOne x z c.ready.result) (sym c.in-Ready.is) e.told) o;
      kept = tt;
      lacks = tt;
      stays = subst (λ (v : Event). StaysReady x c.ready.new.client v) (sym c.in-Ready.is) e.stays;
    }

pub refused-requires : goal.refused-requires
refused-requires c = record { fits = c.requires.fits }

pub returns-in-Refused : goal.returns-in-Refused
returns-in-Refused c =
    let x = c.args.client.now in
    let e = c.refused.ensures in
    let v = c.args.event in
    let o = subst (λ (z : Event). IsClientEventOther z) (sym c.in-Refused.is) tt in
    record {
      fits = e.fits;
      shown = on_ok_weaker c.refused.result (λ h. shown_each x c.refused.new.client v h o)
          (subst (λ (z : Event). OnOk c.refused.result (ShowsOne x c.refused.new.client z)) (sym c.in-Refused.is) e.shown);
      told = IfOk-weaker c.refused.result (λ a. TellsOne x v a) (λ a. ClientEventTells x v a) (λ a h. told_each x v a h o)
          (subst (λ (z : Event). IfOk c.refused.result (λ a. TellsOne x z a)) (sym c.in-Refused.is) e.told);
      kept = e.kept;
      lacks = on_err c.refused.result (subst (λ (v : Event). ClientEventLacks x v) (sym c.in-Refused.is) (λ d s k. tt));
      stays = subst (λ (v : Event). StaysReady x c.refused.new.client v) (sym c.in-Refused.is) tt;
    }

pub finish-requires : goal.finish-requires
finish-requires c = record { fits = c.requires.fits }

pub returns-in-Finish : goal.returns-in-Finish
returns-in-Finish c =
    let x = c.args.client.now in
    let e = c.finish.ensures in
    let v = c.args.event in
    let o = subst (λ (z : Event). IsClientEventOther z) (sym c.in-Finish.is) tt in
    record {
      fits = e.fits;
      shown = shown_each x c.finish.new.client v (subst (λ (z : Event). ShowsOne x c.finish.new.client z) (sym c.in-Finish.is) e.shown) o;
      told = told_each x v c.finish.result (subst (λ (z : Event). TellsOne x z c.finish.result) (sym c.in-Finish.is) e.told) o;
      kept = tt;
      lacks = tt;
      stays = subst (λ (v : Event). StaysReady x c.finish.new.client v) (sym c.in-Finish.is) tt;
    }
