use Rattle.std.proofs.Common.{◌≡◌, List, ℕ, true, length, refl, sym, ap, subst, ◌∙◌}
use Rattle.spec_exchange.specs.State as model
use Rattle.spec_exchange.specs.Step.{Ruling, carried_out, event_answer, with_deadlines}
use Rattle.server_core.proofs.journaled_tables.Behind.{held, held_still, settled_still}
use Rattle.server_checks.specs.event_heard.Heard.{event_of, heard_event}
use Rattle.journal_bytes.specs.record_bodies.Body.{IsBodyOf, fits_by}
use Rattle.server_checks.specs.declared.tables.Config.{Config}
use Rattle.server_core.proofs.event_step.Committed.{alone_comes, event_carried, may_plan}
use Rattle.server_core.proofs.event_step.Early.{not_on, written_memory}
use Rattle.server_core.proofs.event_step.Lacking.{lacked}
use Rattle.server_core.proofs.event_step.Moments.{by_event, leaves_more, nothing_left, same_disk, since_same}
use Rattle.server_core.specs.journaled_tables.Holds.{EventLeavesBodies}
use Rattle.server_effects.specs.prepared_event.Prepared.{prepared_ruling}
use Rattle.server_plan.specs.preparing.Preparing.{wants_memory_by}
use Rattle.server_plan.specs.rulings.Rulings.{AbleToRule}
use Rattle.server_core.specs.body_writing.Bodies.{LeavesOf}
use Rattle.server_core.proofs.event_step.alone.carry_plan.Goals as goal

pub returns-in-Ok : goal.returns-in-Ok
returns-in-Ok g c =
    let old = c.args.server.now in
    let mid = c.make_room.new.server in
    let x = event_of c.args.asked.now in
    let told = g.D.Disk.told in
    let seen = g.D.Disk.seen in
    let may_leave = g.D.Disk.may_leave in
    let body = c.as_slice-body.result.now in record {
      step = λ base users s L records e a plan is.
          let ready = c.in-Ok.ensures.shown s a.holds.fits a.holds.shown.tables a.heard.agrees
          (c.plan_law.ensures.able c.args.plan s c.args.now x a.holds.fits plan)
          (c.plan_law.ensures.owing c.args.plan s c.args.now x a.holds.fits plan) in
          let r = prepared_ruling x c.in-Ok.prepared in
          let rules = ready.1 ∙ plan.ruling in
          event_carried told seen may_leave base g.D.Disk.faults old mid c.commit.new.server users s s L records c.args.now e
          c.args.asked.now
          c.in-Ok.prepared body (carried_out (with_deadlines s c.args.now) c.args.now r).records c.commit.result
          (record { added = c.body_law.ensures.added; spelled = c.behind_law.ensures.over }) (record {
            stepped = c.keeps_law.ensures.stepped;
            sound = c.keeps_law.ensures.sound;
            version = c.keeps_law.ensures.version;
            stands = c.stands_law.ensures.stepped;
            over = c.behind_law.ensures.stepped;
          }) (record {
            shown = c.commit.ensures.shown;
            beside = c.commit.ensures.beside;
            writes = c.commit.ensures.writes;
            acknowledged = c.commit.ensures.acknowledged;
            config = c.commit.ensures.config;
          }) (record {
            none = a.goes_on;
            room = c.make_room.ensures.journal.0;
            held = held_still told seen may_leave base old mid s records c.make_room.ensures.journal.0 c.make_room.ensures.journal.1
                (held told seen may_leave base old s L records a.holds a.goes_on);
            users_are = a.users_are ∙ sym (ap (λ (z : Config). z.users) c.make_room.ensures.kept.config);
            heard = a.heard;
            same = refl;
            fits = a.holds.fits;
            prepared = ready.0;
            may = may_plan s c.args.now x r rules;
            able = subst (λ (q : Ruling). AbleToRule s q) (sym ready.1)
                (c.plan_law.ensures.able c.args.plan s c.args.now x a.holds.fits plan);
            logons = c.make_room.ensures.kept.logons L.keys L.pending a.holds.shown.logons;
            step = c.in-Ok.ensures.step L a.holds.shown.logons;
            count = refl;
            comes = alone_comes (record {
              alone = c.expiring_law.ensures.alone;
              records = c.expiring_law.ensures.records;
              counts = c.carried_law.ensures.counts;
            }) s c.args.now (heard_event users L s e) x r body is rules
                (subst (λ (b : List ℕ). IsBodyOf b (event_answer s c.args.now x).records) (sym c.as_slice-body.ensures) plan.body);
          });
      any_moment = λ tells base users s L records bodies e a plan is goes.
          let ev = heard_event users L s e in
          since_same g.D.Disk.moment g.D.Disk.left_since old.journal mid.journal c.commit.new.server.journal.disk
          (EventLeavesBodies s c.args.now ev bodies) c.make_room.ensures.journal.0
          (leaves_more g.D.Disk.moment g.D.Disk.left_since mid.journal.disk c.commit.new.server.journal.disk
          (LeavesOf bodies body)
          (EventLeavesBodies s c.args.now ev bodies) (by_event s c.args.now ev bodies body
          (subst (λ (A : model.Answer). IsBodyOf body A.records) (sym is)
          (subst (λ (rs : List model.Record). IsBodyOf body rs)
          (sym (c.expiring_law.ensures.records s c.args.now x))
          (subst (λ (b : List ℕ). IsBodyOf b (event_answer s c.args.now x).records) (sym c.as_slice-body.ensures) plan.body))))
          (c.commit.ensures.any_moment tells bodies
          (settled_still seen may_leave old.journal mid.journal bodies c.make_room.ensures.journal.0 goes.1.settled)));
      config = c.commit.ensures.config ∙ c.make_room.ensures.kept.config;
      early = λ s e b w. written_memory g.D.Disk.faults mid c.commit.new.server body c.commit.result c.commit.ensures.writes;
    }

pub returns : goal.returns
returns g c =
    let old = c.args.server.now in
    let mid = c.make_room.new.server in
    let x = event_of c.args.asked.now in
    let told = g.D.Disk.told in
    let seen = g.D.Disk.seen in
    let may_leave = g.D.Disk.may_leave in record {
      step = λ base users s L records e a plan is.
          let lack = c.in-Err.ensures.shown s a.holds.fits a.holds.shown.tables a.heard.agrees
          (c.plan_law.ensures.able c.args.plan s c.args.now x a.holds.fits plan)
          (c.plan_law.ensures.owing c.args.plan s c.args.now x a.holds.fits plan) in
          lacked told seen may_leave base g.D.Disk.faults old mid s L _ records c.args.now (heard_event users L s e) c.in-Err.error
          (held told seen may_leave base old s L records a.holds a.goes_on) c.make_room.ensures.journal.0 c.make_room.ensures.journal.1
          (record {
            tables = lack.0;
            logons = c.make_room.ensures.kept.logons L.keys L.pending a.holds.shown.logons;
          }) lack.1;
      any_moment = λ tells base users s L records bodies e a plan is goes.
          nothing_left seen may_leave g.D.Disk.moment g.D.Disk.left_since g.met.D.Disk.only_now s c.args.now (heard_event users L s e)
          old.journal mid.journal.disk bodies (same_disk old.journal mid.journal c.make_room.ensures.journal.0) goes.1.settled;
      config = c.make_room.ensures.kept.config;
      early = λ s e b w. absurd (not_on (c.in-Err.ensures.sure (ap (λ (v : List ℕ). length v) (c.as_slice-body.ensures ∙ b))
          (ap wants_memory_by e ∙ w)));
    }

pub make_room-requires : goal.make_room-requires
make_room-requires g c =
    subst (λ (b : List ℕ). fits_by c.args.server.now.tables.journal (length b) ≡ true) (sym c.as_slice-body.ensures) c.requires

pub commit-requires : goal.commit-requires
commit-requires g c = (c.in-Ok.ensures.room, c.in-Ok.ensures.written)
