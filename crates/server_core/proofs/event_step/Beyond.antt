-- An event that is ready behind an expiry, from the state y without the open: what y is comes in only by an equation.
use Rattle.std.proofs.Common.{◌≡◌, inl, ℕ, true, List, ◌++◌, Result, None, sym, ap, subst, ◌∙◌}
use Rattle.spec_exchange.specs.Records.{fits}
use Rattle.spec_exchange.specs.State as model
use Rattle.spec_exchange.specs.Step.{Ruling, carried_out, expire, ruling, step, with_deadlines, written_down}
use Rattle.law_snapshots.specs.snapshots.Pieces.{SnapshotPiece}
use Rattle.server_core.proofs.journaled_tables.Answered.{Comes}
use Rattle.server_core.proofs.journaled_tables.Behind.{held_still}
use Rattle.server_core.proofs.journaled_tables.Laws.{Bodies, Steps}
use Rattle.journal.specs.disk_journal.Journal.{OnlyRoom}
use Rattle.server_checks.specs.event_heard.Heard.{event_of, heard_event}
use Rattle.server_checks.specs.declared.event_heard.asked.Asked.{Asked}
use Rattle.server_checks.specs.declared.event_heard.event.ServerEvent.{ServerEvent}
use Rattle.server_core.specs.declared.behind_expiry.behind.Both.{Both}
use Rattle.journal_bytes.specs.record_bodies.Body.{IsBodyOf}
use Rattle.server_checks.specs.declared.tables.Config.{Config}
use Rattle.server_effects.specs.declared.answering.Answer.{Answer}
use Rattle.server_core.proofs.event_step.Committed.{Committing, event_carried}
use Rattle.server_core.proofs.event_step.Out.{OutLaws}
use Rattle.server_core.proofs.event_step.Said.{heard_expired, heard_still}
use Rattle.server_core.specs.event_step.Apart.{ServerApart}
use Rattle.server_core.specs.event_step.Behind.{MayExpire}
use Rattle.server_checks.specs.declared.setups.error.EventError.{EventError}
use Rattle.server_effects.specs.declared.expiry.expiry.Expired.{Expired}
use Rattle.server_core.specs.journaled_tables.Counted.{front_of}
use Rattle.server_core.specs.journaled_tables.Heard.{IsJournaledHeard}
use Rattle.server_core.specs.journaled_tables.Holds.{EventAnswers}
use Rattle.server_core.specs.declared.journaled_tables.state.ServerState.{ServerState}
use Rattle.server_core.proofs.expiry_alone.Shown.{no_deadline}
use Rattle.server_effects.specs.prepared_event.Prepared.{IsPrepared, prepared_ruling}
use Rattle.server_plan.specs.rulings.Rulings.{AbleToRule}
use Rattle.server_checks.specs.session_table.Logons.{LogonsShown}
use Rattle.server_checks.specs.declared.session_table.table.Sessions.{Sessions}
use Rattle.spec_crypto.specs.tokens.Tokens.{Users}
use Rattle.spec_world.specs.Ends.{Logons}

-- the records of both, behind this state
abbrev pub all_of : model.Server → model.Server → ℕ → model.ServerEvent → ℕ → List model.Record
all_of s y now x o = front_of s x o ++ (carried_out y now (ruling y x)).records

step_at : OutLaws → (s y : model.Server) (now o : ℕ) (x : model.ServerEvent) → y ≡ expire s o → MayExpire s now o
    → fits y (all_of s y now x o) ≡ true
    → step s now x ≡ written_down (record (carried_out (with_deadlines y now) now (ruling y x)) { records = all_of s y now x o })
step_at law s y now o x e may = subst (λ (z : model.Server). fits z (all_of s z now x o) ≡ true
    → step s now x ≡ written_down (record (carried_out (with_deadlines z now) now (ruling z x)) { records = all_of s z now x o })) (sym e)
    (λ f. law.behind s now o x may.is_due may.kept (sym (law.fits_same s o (all_of s (expire s o) now x o)) ∙ f))

count_at : OutLaws → (s y : model.Server) (o : ℕ) → y ≡ expire s o → y.journal ≡ s.journal
count_at law s y o e = ap (λ (z : model.Server). z.journal) e ∙ law.expired s o

heard_at : (users : Users) (L : Logons) (s y : model.Server) (o : ℕ) (e : ServerEvent) (a : Asked) → y ≡ expire s o
    → IsJournaledHeard users L s e a → IsJournaledHeard users L y e a
heard_at users L s y o e a out h = subst (λ (z : model.Server). IsJournaledHeard users L z e a) (sym out) (heard_still users L s o e a h)

same_at : (users : Users) (L : Logons) (s y : model.Server) (o : ℕ) (e : ServerEvent) → y ≡ expire s o
    → heard_event users L y e ≡ heard_event users L s e
same_at users L s y o e out = subst (λ (z : model.Server). heard_event users L z e ≡ heard_event users L s e) (sym out)
    (heard_expired users L s o e)

pub undated_at : (s y : model.Server) (o id : ℕ) → y ≡ expire s o → id ≡ o → y.deadline id ≡ None
undated_at s y o id out e = subst (λ (z : model.Server). z.deadline id ≡ None) (sym out)
    (subst (λ (i : ℕ). (expire s o).deadline i ≡ None) (sym e) (no_deadline s o))

comes_at : OutLaws → (s y : model.Server) (now o : ℕ) (ev x : model.ServerEvent) (r : Ruling) (body : List ℕ) → y ≡ expire s o
    → step s now ev ≡ step s now x → MayExpire s now o → r ≡ ruling y x → IsBodyOf body (all_of s y now x o)
    → fits y (all_of s y now x o) ≡ true
    → Comes s now ev (record (carried_out (with_deadlines y now) now r) { records = all_of s y now x o }) body
comes_at law s y now o ev x r body out said may e b f = record {
  step_is = said ∙ (step_at law s y now o x out may f
      ∙ ap (λ (q : Ruling). written_down (record (carried_out (with_deadlines y now) now q) { records = all_of s y now x o })) (sym e));
  count = law.counts (with_deadlines y now) now r ∙ count_at law s y o out;
  written = b;
}

pub body_at : OutLaws → (s y : model.Server) (now o : ℕ) (ev x : model.ServerEvent) (body : List ℕ) → y ≡ expire s o
    → step s now ev ≡ step s now x → MayExpire s now o → IsBodyOf body (all_of s y now x o) → fits y (all_of s y now x o) ≡ true
    → IsBodyOf body (step s now ev).records
body_at law s y now o ev x body out said may b f =
    subst (λ (A : model.Answer). IsBodyOf body A.records) (sym (said ∙ step_at law s y now o x out may f)) b

pub carried_apart : {D : Type 0} (told : Type 0) (seen : D → List ℕ) (may_leave : D → List ℕ → Type 0)
    (base : List SnapshotPiece) (faults : D → ℕ)
    (old mid new : ServerState D) (users : Users) (s y : model.Server) (L : Logons) (records : List model.Record) (now : ℕ)
    (e : ServerEvent) (a : Asked) (o : ℕ) (x : Expired) (both : Both) (result : Result Answer EventError) → Bodies → Steps → OutLaws
    → Committing told seen may_leave faults mid new a both.prepared both.body now result
    → ServerApart told seen may_leave base old users s y L records now e a o x both → MayExpire s now o
    → AbleToRule y (ruling y (event_of a))
    → OnlyRoom old.journal mid.journal → mid.stopped ≡ old.stopped → mid.tables.config ≡ old.tables.config
    → mid.tables.sessions ≡ old.tables.sessions → IsPrepared mid.tables y now (event_of a) both.prepared
    → EventAnswers told seen may_leave base faults old new users s L records now e result
carried_apart {D} told seen may_leave base faults old mid new users s y L records now e a o x both result bodies steps law k
    f may able room stops
    config sessions prepared =
    event_carried told seen may_leave base faults old mid new users s y L records now e a both.prepared both.body
    (all_of s y now (event_of a) o)
    result bodies steps k (record {
      none = f.held.goes_on;
      room = room;
      held = held_still told seen may_leave base old mid s records room stops f.held;
      users_are = f.users_are ∙ sym (ap (λ (z : Config). z.users) config);
      heard = heard_at users L s y o e a f.out f.heard;
      same = same_at users L s y o e f.out;
      fits = f.fits;
      prepared = prepared;
      may = inl f.ready.1;
      able = subst (λ (q : Ruling). AbleToRule y q) (sym f.ready.1) able;
      logons = subst (λ (t : Sessions). LogonsShown t L.keys L.pending) (sym sessions) f.logons;
      step = f.step_is;
      count = count_at law s y o f.out;
      comes = comes_at law s y now o (heard_event users L s e) (event_of a) (prepared_ruling (event_of a) both.prepared)
          both.body f.out f.said may
          f.ready.1 f.ready.2 f.ready.3;
    })
