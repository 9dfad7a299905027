use Rattle.std.proofs.Common.{refl}
use Rattle.spec_exchange.specs.Step.{with_deadlines}
use Rattle.server_checks.specs.event_heard.Heard.{event_of}
use Rattle.server_effects.specs.prepared_event.Prepared.{prepared_ruling}
use Rattle.server_core.proofs.first_deadlines.Beside.{beside_carried}
use Rattle.server_core.proofs.first_deadlines.Kept.{able_carried, prepared_opens, rule_still}
use Rattle.server_core.proofs.first_deadlines.Rules.{ends_by, may_rule, told_of}
use Rattle.server_core.proofs.first_deadlines.dating.carry_dated.Goals as goal

pub carry_event-requires : goal.carry_event-requires
carry_event-requires c =
    c.dated_effects_law.ensures.room c.args.t.now c.date.new.self c.args.asked.now c.args.prepared (record {
      room = c.date.ensures.room;
      in_session = c.date.ensures.in_session;
      in_new = c.date.ensures.in_new;
      rest = c.date.ensures.rest;
    }) c.requires

pub returns : goal.returns
returns c =
    let x = event_of c.args.asked.now in
    let r = prepared_ruling x c.args.prepared in record {
      shows = λ s f i a.
          c.carry_event.ensures.shows (with_deadlines s c.args.now) (c.dated_law.ensures.fits s c.args.now f)
          (c.dated_effects_law.ensures.prepared c.args.t.now c.date.new.self s c.args.now x c.args.prepared i
          (c.date.ensures.shown s (prepared_opens c.args.t.now s c.args.now x c.args.prepared i)))
          (able_carried (with_deadlines s c.args.now) x c.args.prepared (rule_still c.dated_effects_law.ensures.able s c.args.now r a));
      beside = λ users s L e f i may a heard logons step.
          let d = with_deadlines s c.args.now in
          let on = may_rule s d x r (c.dated_law.ensures.ruled s c.args.now x) may in
          beside_carried (record c.args.t.now { opens = c.date.new.self }) c.carry_event.new.t c.carry_event.result users L s d e
          c.args.asked.now c.args.now c.args.prepared _ (record {
            making = refl;
            heard = heard;
            eight = c.are_eight.ensures;
            logons = logons;
            beside = c.carry_event.ensures.beside;
            told = told_of (record { ruled = c.progress_law.ensures.ruled; lesser = c.progress_law.ensures.lesser }) users L s d e x
                c.args.now r heard.said on;
            ends = ends_by (record { checked = c.making_law.ensures.checked; lesser = c.making_law.ensures.lesser }) d x r on;
            able = rule_still c.dated_effects_law.ensures.able s c.args.now r a;
            shown = c.dated_effects_law.ensures.prepared c.args.t.now c.date.new.self s c.args.now x c.args.prepared i
                (c.date.ensures.shown s (prepared_opens c.args.t.now s c.args.now x c.args.prepared i));
            step = step;
          });
      config = c.carry_event.ensures.config;
    }
