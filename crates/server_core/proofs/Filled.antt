-- A journal that took space ahead: what the server holds is as before.
use Rattle.std.proofs.Common.{◌≡◌, ℕ, Bool, List, None, refl, sym, ap, subst, ◌∙◌}
use Rattle.std.specs.Prelude.{Ok, Err}
use Rattle.spec_exchange.specs.State as model
use Rattle.law_snapshots.specs.snapshots.Pieces.{SnapshotPiece}
use Rattle.journal.specs.disk_journal.Journal.{JournalState, JournalSettled, OnlyRoom, TakesAhead}
use Rattle.journal.specs.declared.disk_journal.journal.JournalError.{JournalError}
use Rattle.journal.specs.declared.disk_journal.journal.JournalError.TheVariants as causes
use Rattle.spec_world.specs.Ends.{Logons}
use Rattle.server_core.specs.body_writing.Bodies.{event_error_of, stopped_by}
use Rattle.server_core.specs.journaled_tables.Holds.{HoldsOver, JournaledStands}
use Rattle.server_core.specs.space_ahead.Space.{TakesSpace}
use Rattle.server_core.specs.declared.journaled_tables.state.ServerState.{ServerState}

-- the bodies stay
abbrev pub Stays : {D : Type 0} → Type 0 → (D → List ℕ) → (D → List ℕ → Type 0) → JournalState D → JournalState D → Type 0
Stays told seen may_leave old new = told → (bodies : List (List ℕ)) → JournalSettled seen may_leave old bodies
    → JournalSettled seen may_leave new bodies

stands_still : {D : Type 0} (seen : D → List ℕ) (may_leave : D → List ℕ → Type 0) (base : List SnapshotPiece) (old new : JournalState D)
    (s : model.Server) (records : List model.Record) (bodies : List (List ℕ)) → new.used ≡ old.used
    → (JournalSettled seen may_leave old bodies → JournalSettled seen may_leave new bodies)
    → JournaledStands seen may_leave base old s records bodies → JournaledStands seen may_leave base new s records bodies
stands_still seen may_leave base old new s records bodies used stays h = record {
  settled = stays h.settled;
  spelled = h.spelled;
  for_state = h.for_state;
  plain = h.plain;
  used = h.used ∙ sym used;
}

pub holds_still : {D : Type 0} (told : Type 0) (seen : D → List ℕ) (may_leave : D → List ℕ → Type 0) (base : List SnapshotPiece)
    (c : ServerState D) (new : JournalState D) (s : model.Server) (L : Logons) (records : List model.Record)
    → new.used ≡ c.journal.used → new.stopped ≡ c.journal.stopped → Stays told seen may_leave c.journal new
    → HoldsOver told seen may_leave base c s L records → HoldsOver told seen may_leave base (record c { journal = new }) s L records
holds_still told seen may_leave base c new s L records used stopped stays h = record {
  shown = h.shown;
  fits = h.fits;
  version = h.version;
  sound = h.sound;
  stopped_is = h.stopped_is ∙ sym stopped;
  used = λ none. h.used none ∙ sym used;
  stands = λ none tells. let b = h.stands none tells in
      (b.0, stands_still seen may_leave base c.journal new s records b.0 used (stays tells b.0) b.1);
}

pub taken : {D : Type 0} (told : Type 0) (seen : D → List ℕ) (may_leave : D → List ℕ → Type 0) (faults : D → ℕ)
    (base : List SnapshotPiece) (c : ServerState D) (new : JournalState D) (s : model.Server) (L : Logons) (records : List model.Record)
    (whole : Bool) → c.stopped ≡ None → TakesAhead faults c.journal (Ok whole) new → Stays told seen may_leave c.journal new
    → HoldsOver told seen may_leave base c s L records
    → TakesSpace told seen may_leave faults base c (record c { journal = new }) s L records (Ok whole)
taken told seen may_leave faults base c new s L records whole none t stays h = (
  none,
  none,
  holds_still told seen may_leave base c new s L records (ap (λ (j : JournalState _). j.used) t.1)
      (ap (λ (j : JournalState _). j.stopped) t.1) stays h,
)

room_stays : {D : Type 0} (told : Type 0) (seen : D → List ℕ) (may_leave : D → List ℕ → Type 0) (old new : JournalState D)
    → OnlyRoom old new → Stays told seen may_leave old new
room_stays told seen may_leave old new o tells bodies b = subst (λ j. JournalSettled seen may_leave j bodies) (sym o.0) (record {
  gate = b.gate;
  rest = b.rest;
  file = b.file;
  closed = b.closed;
  end = b.end;
  used = b.used;
  count = b.count;
  fit = b.fit;
  some_taken = b.some_taken;
  next = b.next;
  none_waits = b.none_waits;
  goes_on = b.goes_on;
  durable = b.durable;
})

pub refused : {D : Type 0} (told : Type 0) (seen : D → List ℕ) (may_leave : D → List ℕ → Type 0) (faults : D → ℕ)
    (base : List SnapshotPiece) (c : ServerState D) (new : JournalState D) (s : model.Server) (L : Logons) (records : List model.Record)
    (error : JournalError) → c.stopped ≡ None → TakesAhead faults c.journal (Err error) new
    → HoldsOver told seen may_leave base c s L records
    → TakesSpace told seen may_leave faults base c
    (record c { journal = new; stopped = stopped_by (event_error_of error) c.stopped }) s L records (Err (event_error_of error))
refused told seen may_leave faults base c new s L records causes.Memory none t h = (
  none,
  none,
  holds_still told seen may_leave base c new s L records (ap (λ (j : JournalState _). j.used) t.1.0)
      (ap (λ (j : JournalState _). j.stopped) t.1.0) (room_stays told seen may_leave c.journal new t.1) h,
)
refused told seen may_leave faults base c new s L records (causes.DiskFault n) none t h = (none, refl, t.1, t.2, h.shown)
refused told seen may_leave faults base c new s L records (causes.NotAJournal at) none t h = absurd t
refused told seen may_leave faults base c new s L records (causes.Full would limit) none t h = absurd t
refused told seen may_leave faults base c new s L records (causes.Stopped n) none t h =
    absurd (let e = sym t.0 ∙ (sym h.stopped_is ∙ none) in cc)
