use Rattle.std.proofs.Common.{◌+◌, ◌++◌, ℕ, ap, refl, subst, sym, ◌∙◌}
use Rattle.std.specs.Prelude.{OnOk, Result}
use Rattle.spec_exchange.specs.Step.{carried_out, with_deadlines}
use Rattle.journal.specs.disk_journal.Journal.{JournalSettled}
use Rattle.server_checks.specs.event_heard.Heard.{event_of}
use Rattle.journal_bytes.specs.record_bodies.Body.{added_by, bodies_of}
use Rattle.server_checks.specs.declared.tables.Tables.{Tables}
use Rattle.server_core.proofs.commit_event.Shown.{counted_shown, prepared_count, uncounted_shown}
use Rattle.server_core.proofs.commit_event.Written.{failed}
use Rattle.server_core.proofs.commit_event.committing.commit.Goals as goal
use Rattle.server_checks.specs.declared.setups.error.EventError.{EventError}
use Rattle.server_effects.specs.prepared_event.Prepared.{IsPrepared, RoomToCarry, prepared_ruling}
use Rattle.server_core.specs.recording.Writes.{WritesBut}
use Rattle.server_checks.specs.session_table.Logons.{LogonsShown}

pub used_behind-used-requires : goal.used_behind-used-requires
used_behind-used-requires g c = c.requires.1.1

pub write-written-requires : goal.write-written-requires
write-written-requires g c = c.requires.1

pub carry_dated-answer-requires : goal.carry_dated-answer-requires
carry_dated-answer-requires g c =
    subst (λ (t : Tables). RoomToCarry t c.args.asked.now c.args.prepared) (sym c.write-written.ensures.same) c.requires.0

pub returns-in-Ok : goal.returns-in-Ok
returns-in-Ok g c =
    let x = event_of c.args.asked.now in
    let r = prepared_ruling x c.args.prepared in
    let old = sym c.write-written.ensures.same in record {
      shown = λ s fits i able.
          let C = carried_out (with_deadlines s c.args.now) c.args.now r in
          let k = c.carry_dated-answer.ensures.shows s fits
          (subst (λ (t : Tables). IsPrepared t s c.args.now x c.args.prepared) old i) able in (
            k.reply,
            k.acted,
            counted_shown c.carry_dated-answer.new.t C.server (s.journal + added_by c.args.body.now) c.used_behind-used.result k.shows
                (ap (λ (n : ℕ). n + added_by c.args.body.now) (prepared_count c.args.server.now.tables s c.args.now x c.args.prepared i)
                ∙ sym (c.used_behind-used.ensures c.args.body.now refl)),
          );
      beside = λ users s L e fits i may able heard logons step.
          c.carry_dated-answer.ensures.beside users s L e fits
          (subst (λ (t : Tables). IsPrepared t s c.args.now x c.args.prepared) old i) may able heard
          (subst (λ (t : Tables). LogonsShown t.sessions L.keys L.pending) old logons) step;
      writes =
          subst (λ (w : Result Unit EventError). WritesBut g.D.Disk.faults c.args.server.now c.args.body.now w c.write-written.new.server)
          c.in-Ok.is c.write-written.ensures.writes;
      acknowledged = λ told bodies settled.
          subst (λ (w : Result Unit EventError). OnOk w (JournalSettled g.D.Disk.seen g.D.Disk.may_leave c.write-written.new.server.journal
          (bodies ++ bodies_of c.args.body.now))) c.in-Ok.is (c.write-written.ensures.acknowledged told bodies settled);
      any_moment = c.write-written.ensures.any_moment;
      config = c.carry_dated-answer.ensures.config ∙ ap (λ (t : Tables). t.config) c.write-written.ensures.same;
    }

pub returns-in-Err : goal.returns-in-Err
returns-in-Err g c =
    let x = event_of c.args.asked.now in
    let r = prepared_ruling x c.args.prepared in
    let old = sym c.write-written.ensures.same in record {
      shown = λ s fits i able.
          let d = with_deadlines s c.args.now in
          let k = c.carry_dated-answer.ensures.shows s fits
          (subst (λ (t : Tables). IsPrepared t s c.args.now x c.args.prepared) old i) able in
          uncounted_shown c.carry_dated-answer.new.t (carried_out d c.args.now r).server s.journal k.shows
          (sym (c.carried_law.ensures.counts d c.args.now r));
      beside = λ users s L e fits i may able heard logons step.
          (c.carry_dated-answer.ensures.beside users s L e fits
          (subst (λ (t : Tables). IsPrepared t s c.args.now x c.args.prepared) old i) may able heard
          (subst (λ (t : Tables). LogonsShown t.sessions L.keys L.pending) old logons) step).0;
      writes = failed g.D.Disk.faults c.args.server.now c.write-written.new.server c.carry_dated-answer.new.t c.args.body.now c.in-Err.error
          (subst (λ (w : Result Unit EventError). WritesBut g.D.Disk.faults c.args.server.now c.args.body.now w c.write-written.new.server)
          c.in-Err.is c.write-written.ensures.writes);
      acknowledged = λ told bodies settled. tt;
      any_moment = c.write-written.ensures.any_moment;
      config = c.carry_dated-answer.ensures.config ∙ ap (λ (t : Tables). t.config) c.write-written.ensures.same;
    }
