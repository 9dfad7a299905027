-- A journal that is written anew in a draft: what was put there, and what the calls answer and leave.
use Rattle.std.specs.Prelude.{◌≡◌, ℕ, ◌+◌, ◌<◌, ◌≤◌, false, List, length, Option, Some, None, Result, Ok, Err}
use Rattle.base_outside.specs.streams.Faults.{Rose}
use Rattle.base_outside.specs.declared.streams.room.DiskStep.{DiskStep}
use Rattle.base_outside.specs.declared.streams.room.DiskStep.TheVariants.{Done, NoRoom}
use Rattle.spec_wire.specs.journal.Grammar.{front, AllFit}
use Rattle.spec_journal.specs.Forms.{form_front}
use Rattle.spec_journal.specs.declared.form.Form.TheVariants.{Summed}
use Rattle.journal.specs.declared.disk_journal.journal.JournalError.{JournalError}
use Rattle.journal.specs.declared.disk_journal.journal.JournalError.TheVariants as errors
use Rattle.journal.specs.disk_journal.Journal.{JournalState, journal_capped, limit_of}

-- How far a draft has come: where the gate behind its bodies will stand, how many bytes it will use with that gate but for checksums, and
-- how many bodies it has.
pub record RewriteState : Type 0 where
  pub gate : ℕ
  pub used : ℕ
  pub count : ℕ

-- the draft holds these bodies, with checksums, and no gate behind them yet
pub record IsDrafted {D : Type 0} (drafted : D → List ℕ) (disk : D) (rewrite : RewriteState) (bodies : List (List ℕ)) : Type 0 where
  pub file : drafted disk ≡ form_front Summed bodies
  pub gate : rewrite.gate ≡ length (form_front Summed bodies)
  pub used : rewrite.used ≡ length (front bodies) + 1
  pub count : rewrite.count ≡ length bodies
  pub fit : AllFit bodies

-- nothing changed but the disk, beside which a draft is written, and the room, which never falls
abbrev pub OnlyDrafted : {D : Type 0} → (D → ℕ) → JournalState D → JournalState D → Type 0
OnlyDrafted faults old new = (old.stopped ≡ None) × (new ≡ record old { disk = new.disk; room = new.room }) × (old.room ≤ new.room)
    × (faults new.disk ≡ faults old.disk)

-- the disk failed, and the journal stopped
abbrev pub DraftStops : {D : Type 0} → (D → ℕ) → ℕ → JournalState D → JournalState D → Type 0
DraftStops faults n old new = (old.stopped ≡ None) × Rose (faults old.disk) n × (n ≡ faults new.disk)
    × (new ≡ record old { disk = new.disk; room = new.room; stopped = Some n }) × (old.room ≤ new.room)

-- What `begin_rewrite` answers on any disk, and what it leaves.
abbrev pub RewriteBegins : {D : Type 0} → (D → ℕ) → JournalState D → Result (Option RewriteState) JournalError → JournalState D → Type 0
RewriteBegins faults old (Ok (Some w)) new = OnlyDrafted faults old new × (w ≡ record { gate = 8; used = 9; count = 0 })
RewriteBegins faults old (Ok None) new = OnlyDrafted faults old new
RewriteBegins faults old (Err errors.Memory) new = ⊥
RewriteBegins faults old (Err (errors.DiskFault n)) new = DraftStops faults n old new
RewriteBegins faults old (Err (errors.NotAJournal at)) new = ⊥
RewriteBegins faults old (Err (errors.Full would limit)) new = ⊥
RewriteBegins faults old (Err (errors.Stopped n)) new = (old.stopped ≡ Some n) × (new ≡ old)

-- What `put` answers of a body of so many bytes, and what it leaves.
abbrev pub RewritePuts : {D : Type 0} → (D → ℕ) → JournalState D → RewriteState → ℕ → Result DiskStep JournalError → JournalState D
    → RewriteState → Type 0
RewritePuts faults old w size (Ok Done) new v = OnlyDrafted faults old new × (w.used + 5 + size ≤ limit_of false) × (v ≡ record {
  gate = w.gate + 9 + size;
  used = w.used + 5 + size;
  count = w.count + 1;
})
RewritePuts faults old w size (Ok NoRoom) new v = OnlyDrafted faults old new × (w.used + 5 + size ≤ limit_of false) × (v ≡ w)
RewritePuts faults old w size (Err errors.Memory) new v = OnlyDrafted faults old new × (w.used + 5 + size ≤ limit_of false)
    × (old.room < size + 5) × (v ≡ w)
RewritePuts faults old w size (Err (errors.DiskFault n)) new v = DraftStops faults n old new × (w.used + 5 + size ≤ limit_of false) × (v ≡ w)
RewritePuts faults old w size (Err (errors.NotAJournal at)) new v = ⊥
RewritePuts faults old w size (Err (errors.Full would limit)) new v = (old.stopped ≡ None) × (would ≡ journal_capped (w.used + 5 + size))
    × (limit ≡ limit_of false) × (limit < would) × (new ≡ old) × (v ≡ w)
RewritePuts faults old w size (Err (errors.Stopped n)) new v = (old.stopped ≡ Some n) × (new ≡ old) × (v ≡ w)

-- What `finish` answers, and what it leaves: a journal whose bodies count as handed out.
abbrev pub RewriteEnds : {D : Type 0} → (D → ℕ) → JournalState D → RewriteState → Result DiskStep JournalError → JournalState D → Type 0
RewriteEnds faults old w (Ok Done) new = (old.stopped ≡ None) × (new ≡ record {
  disk = new.disk;
  form = Summed;
  end = w.gate + 1;
  used = w.used;
  count = w.count;
  taken = w.count;
  next = w.gate;
  waits = None;
  stopped = None;
  room = old.room;
}) × (faults new.disk ≡ faults old.disk)
RewriteEnds faults old w (Ok NoRoom) new = OnlyDrafted faults old new
RewriteEnds faults old w (Err errors.Memory) new = ⊥
RewriteEnds faults old w (Err (errors.DiskFault n)) new = DraftStops faults n old new
RewriteEnds faults old w (Err (errors.NotAJournal at)) new = ⊥
RewriteEnds faults old w (Err (errors.Full would limit)) new = ⊥
RewriteEnds faults old w (Err (errors.Stopped n)) new = (old.stopped ≡ Some n) × (new ≡ old)
