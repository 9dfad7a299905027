-- A server holds a state behind one more body, or behind room alone.
use Rattle.std.proofs.Common.{◌≡◌, ℕ, ◌+◌, List, ◌++◌, None, sym, ap, subst, ◌∙◌}
use Rattle.spec_exchange.specs.State as model
use Rattle.journal.specs.disk_journal.Journal.{JournalState, OnlyRoom, JournalSettled}
use Rattle.journal_bytes.specs.record_bodies.Body.{IsBodyOf, added_by, bodies_of}
use Rattle.law_snapshots.specs.snapshots.Pieces.{SnapshotPiece}
use Rattle.server_core.specs.journaled_tables.Holds.{JournaledHeld, HoldsOver, JournaledStands}
use Rattle.server_core.specs.journaled_tables.Shown.{ServerShown}
use Rattle.server_core.specs.declared.journaled_tables.state.ServerState.{ServerState}
use Rattle.law_server.proofs.tables.Folded.{sound_more}
use Rattle.server_core.proofs.journaled_tables.Laws.{Bodies, Follows}
use Rattle.spec_world.specs.Ends.{Logons}

pub held : {D : Type 0} (told : Type 0) (seen : D → List ℕ) (may_leave : D → List ℕ → Type 0)
    (base : List SnapshotPiece) (c : ServerState D) (s : model.Server)
    (L : Logons) (records : List model.Record) → HoldsOver told seen may_leave base c s L records → c.stopped ≡ None
    → JournaledHeld told seen may_leave base c s records
held told seen may_leave base c s L records h none = record {
  fits = h.fits;
  version = h.version;
  sound = h.sound;
  goes_on = none;
  stopped_is = h.stopped_is;
  used = h.used none;
  stands = h.stands none;
}

-- ---- room alone

settled_room : {D : Type 0} (seen : D → List ℕ) (may_leave : D → List ℕ → Type 0) (j : JournalState D) (r : ℕ) (bodies : List (List ℕ))
    → JournalSettled seen may_leave j bodies → JournalSettled seen may_leave (record j { room = r }) bodies
settled_room seen may_leave j r bodies h = record {
  gate = h.gate;
  rest = h.rest;
  file = h.file;
  closed = h.closed;
  end = h.end;
  used = h.used;
  count = h.count;
  fit = h.fit;
  some_taken = h.some_taken;
  next = h.next;
  none_waits = h.none_waits;
  goes_on = h.goes_on;
  durable = h.durable;
}

pub settled_still : {D : Type 0} (seen : D → List ℕ) (may_leave : D → List ℕ → Type 0) (j k : JournalState D) (bodies : List (List ℕ))
    → OnlyRoom j k → JournalSettled seen may_leave j bodies → JournalSettled seen may_leave k bodies
settled_still {D} seen may_leave j k bodies o h = subst (λ (i : JournalState D). JournalSettled seen may_leave i bodies) (sym o.0)
    (settled_room seen may_leave j k.room bodies h)

pub stands_still : {D : Type 0} (seen : D → List ℕ) (may_leave : D → List ℕ → Type 0)
    (base : List SnapshotPiece) (j k : JournalState D) (s : model.Server)
    (records : List model.Record) (bodies : List (List ℕ)) → OnlyRoom j k → JournaledStands seen may_leave base j s records bodies
    → JournaledStands seen may_leave base k s records bodies
stands_still {D} seen may_leave base j k s records bodies o h = record {
  settled = settled_still seen may_leave j k bodies o h.settled;
  spelled = h.spelled;
  for_state = h.for_state;
  plain = h.plain;
  used = h.used ∙ sym (ap (λ (i : JournalState D). i.used) o.0);
}

pub held_still : {D : Type 0} (told : Type 0) (seen : D → List ℕ) (may_leave : D → List ℕ → Type 0)
    (base : List SnapshotPiece) (old new : ServerState D)
    (s : model.Server) (records : List model.Record) → OnlyRoom old.journal new.journal → new.stopped ≡ old.stopped
    → JournaledHeld told seen may_leave base old s records → JournaledHeld told seen may_leave base new s records
held_still {D} told seen may_leave base old new s records o same h = record {
  fits = h.fits;
  version = h.version;
  sound = h.sound;
  goes_on = same ∙ h.goes_on;
  stopped_is = same ∙ (h.stopped_is ∙ sym (ap (λ (i : JournalState D). i.stopped) o.0));
  used = h.used ∙ sym (ap (λ (i : JournalState D). i.used) o.0);
  stands = λ t. let b = h.stands t in (b.0, stands_still seen may_leave base old.journal new.journal s records b.0 o b.1);
}

pub holds_shown : {D : Type 0} (told : Type 0) (seen : D → List ℕ) (may_leave : D → List ℕ → Type 0)
    (base : List SnapshotPiece) (c : ServerState D) (s : model.Server)
    (L : Logons) (records : List model.Record) → JournaledHeld told seen may_leave base c s records → ServerShown c.tables s L
    → HoldsOver told seen may_leave base c s L records
holds_shown told seen may_leave base c s L records h shown = record {
  shown = shown;
  fits = h.fits;
  version = h.version;
  sound = h.sound;
  stopped_is = h.stopped_is;
  used = λ none. h.used;
  stands = λ none t. h.stands t;
}

-- ---- one more body

-- what writing it comes to, where it is written
pub record Written {D : Type 0} (told : Type 0) (seen : D → List ℕ) (may_leave : D → List ℕ → Type 0) (old new : ServerState D)
    (body : List ℕ) : Type 0 where
  pub same : new.stopped ≡ old.stopped
  pub journal_same : new.journal.stopped ≡ old.journal.stopped
  pub used : new.journal.used ≡ old.journal.used + added_by body
  pub settled : told → (bodies : List (List ℕ)) → JournalSettled seen may_leave old.journal bodies
      → JournalSettled seen may_leave new.journal (bodies ++ bodies_of body)

pub holds_more : {D : Type 0} (told : Type 0) (seen : D → List ℕ) (may_leave : D → List ℕ → Type 0)
    (base : List SnapshotPiece) (old new : ServerState D)
    (s t : model.Server) (M : Logons) (records more : List model.Record) (body : List ℕ) → Bodies
    → JournaledHeld told seen may_leave base old s records
    → Follows s t more → IsBodyOf body more → t.journal ≡ s.journal + added_by body → Written told seen may_leave old new body
    → ServerShown new.tables t M → HoldsOver told seen may_leave base new t M (records ++ more)
holds_more told seen may_leave base old new s t M records more body law h f b count w shown = record {
  shown = shown;
  fits = f.fits;
  version = f.version ∙ h.version;
  sound = sound_more records more h.sound f.sound;
  stopped_is = w.same ∙ (h.stopped_is ∙ sym w.journal_same);
  used = λ none. count ∙ (ap (λ (n : ℕ). n + added_by body) h.used ∙ sym w.used);
  stands = λ none tells.
      let c = h.stands tells in (
        c.0 ++ bodies_of body,
        record {
          settled = w.settled tells c.0 c.1.settled;
          spelled = law.spelled base c.0 records more body c.1.spelled (c.1.for_state.counts.version ∙ h.version) b;
          for_state = f.over base records c.1.for_state;
          plain = λ none. f.stands records (c.1.plain none);
          used = count ∙ (ap (λ (n : ℕ). n + added_by body) c.1.used ∙ sym w.used);
        },
      );
}
