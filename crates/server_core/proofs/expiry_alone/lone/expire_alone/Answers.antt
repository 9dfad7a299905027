use Rattle.std.proofs.Common.{◌+◌, ◌++◌, ℕ, ap, refl, subst, sym, ◌∙◌}
use Rattle.std.specs.Prelude.{OnOk, Result}
use Rattle.spec_exchange.specs.Step.{expire}
use Rattle.journal.specs.disk_journal.Journal.{JournalSettled}
use Rattle.journal_bytes.specs.record_bodies.Body.{added_by, bodies_of}
use Rattle.server_checks.specs.Shown.{TablesShown}
use Rattle.server_checks.specs.declared.tables.Tables.{Tables}
use Rattle.server_checks.specs.declared.setups.error.EventError.{EventError}
use Rattle.server_core.proofs.expiry_alone.Shown.{lone_shown, no_deadline}
use Rattle.server_core.proofs.expiry_alone.Written.{failed_as, failed_shown, not_memory}
use Rattle.server_core.proofs.expiry_alone.lone.expire_alone.Goals as goal
use Rattle.server_core.specs.recording.Writes.{WritesBut}

pub used_behind-used-requires : goal.used_behind-used-requires
used_behind-used-requires g c = c.requires.1

pub write-written-requires : goal.write-written-requires
write-written-requires g c = c.requires

pub returns-in-Ok : goal.returns-in-Ok
returns-in-Ok g c = record {
  shown = λ s o h none id.
      let t = c.write-written.new.server.tables in
      let k = subst (λ (v : Tables). TablesShown v (expire s o)) (sym c.write-written.ensures.same) h in
      lone_shown t c.date.new.self s c.args.now o (s.journal + added_by c.args.front.now) c.used_behind-used.result k
      (c.date.ensures.shown (expire s o) (c.give_up.ensures.shows (expire s o) k.opens
      (ap (λ (x : ℕ). (expire s o).deadline x) id ∙ no_deadline s o))) (c.dated_law.ensures.expired s c.args.now o)
      (ap (λ (n : ℕ). n + added_by c.args.front.now) (sym (c.carried_law.ensures.expired s o) ∙ h.journal_is)
      ∙ sym (c.used_behind-used.ensures c.args.front.now refl));
  writes =
      subst (λ (w : Result Unit EventError). WritesBut g.D.Disk.faults c.args.server.now c.args.front.now w c.write-written.new.server)
      c.in-Ok.is c.write-written.ensures.writes;
  acknowledged = λ told bodies settled memory.
      subst (λ (w : Result Unit EventError). OnOk w (JournalSettled g.D.Disk.seen g.D.Disk.may_leave c.write-written.new.server.journal
      (bodies ++ bodies_of c.args.front.now))) c.in-Ok.is (c.write-written.ensures.acknowledged told bodies settled);
  any_moment = c.write-written.ensures.any_moment;
  sessions = ap (λ (t : Tables). t.sessions) c.write-written.ensures.same;
  config = ap (λ (t : Tables). t.config) c.write-written.ensures.same;
}

pub returns-in-Err : goal.returns-in-Err
returns-in-Err g c =
    let faults = g.D.Disk.faults in
    let old = c.args.server.now in
    let mid = c.write-written.new.server in
    let front = c.args.front.now in
    let w = subst (λ (v : Result Unit EventError). WritesBut faults old front v mid) c.in-Err.is c.write-written.ensures.writes in record {
      shown = λ s o h none id.
          let k = subst (λ (v : Tables). TablesShown v (expire s o)) (sym c.write-written.ensures.same) h in
          failed_shown faults old mid (record mid { tables = record mid.tables { opens = c.date.new.self } }) s
          c.args.now o front c.in-Err.error w
          (lone_shown mid.tables c.date.new.self s c.args.now o s.journal mid.tables.journal k
          (c.date.ensures.shown (expire s o) (c.give_up.ensures.shows (expire s o) k.opens
          (ap (λ (x : ℕ). (expire s o).deadline x) id ∙ no_deadline s o))) (c.dated_law.ensures.expired s c.args.now o)
          (sym (c.carried_law.ensures.expired s o) ∙ k.journal_is));
      writes = failed_as faults old mid (record mid.tables { opens = c.date.new.self }) front c.in-Err.error w;
      acknowledged = λ told bodies settled memory. absurd (not_memory faults old mid front c.in-Err.error w memory);
      any_moment = c.write-written.ensures.any_moment;
      sessions = ap (λ (t : Tables). t.sessions) c.write-written.ensures.same;
      config = ap (λ (t : Tables). t.config) c.write-written.ensures.same;
    }
