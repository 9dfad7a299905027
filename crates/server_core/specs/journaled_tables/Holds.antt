-- A server over its disk: what it shows, what the disk stands for, and what an event answers with the state that it leaves.
use Rattle.std.specs.Prelude.{◌≡◌, ◌⊎◌, ℕ, List, [], ◌++◌, Some, None, true, Result, MatchResult}
use Rattle.spec_exchange.specs.State as model
use Rattle.spec_exchange.specs.Step.{step}
use Rattle.law_records.specs.recovery.Recovers.{RecordRecovers}
use Rattle.law_snapshots.specs.snapshots.Pieces.{SnapshotPiece}
use Rattle.law_server.specs.tables.Fits.{Fits, all_sound}
use Rattle.base_outside.specs.streams.Faults.{Rose}
use Rattle.spec_journal.specs.Forms.{StandsFor}
use Rattle.journal.specs.disk_journal.Journal.{JournalState, JournalSettled}
use Rattle.wire_commands.specs.values.Meaning.{reply_of}
use Rattle.spec_crypto.specs.tokens.Tokens.{Users}
use Rattle.spec_world.specs.Ends.{Logons}
use Rattle.spec_world.specs.Lacking.{alone_records, Expires}
use Rattle.server_checks.specs.setups.Setups.{progress_of}
use Rattle.server_checks.specs.declared.setups.error.EventError.{EventError}
use Rattle.server_checks.specs.declared.setups.error.EventError.TheVariants.{Memory, DiskFault, Stopped}
use Rattle.server_core.specs.journaled_tables.Shown.{ServerShown}
use Rattle.server_checks.specs.event_heard.Heard.{heard_event}
use Rattle.server_core.specs.journaled_tables.Beside.{BesideReply, logons_behind}
use Rattle.server_core.specs.journaled_tables.Journal.{OneBody}
use Rattle.server_core.specs.Over.{StandsOver}
use Rattle.server_core.specs.Reading.{SpellOver}
use Rattle.server_effects.specs.declared.answering.Answer.{Answer}
use Rattle.server_checks.specs.declared.event_heard.event.ServerEvent.{ServerEvent}
use Rattle.server_core.specs.declared.journaled_tables.state.ServerState.{ServerState}

-- As long as no call of the disk failed, its bodies are a snapshot, the base, and these records behind it. What both stand for agrees with
-- the state in what outlives a restart; without a snapshot the fold of the records does so column by column.
pub record JournaledStands {D : Type 0} (seen : D → List ℕ) (may_leave : D → List ℕ → Type 0) (base : List SnapshotPiece)
    (journal : JournalState D) (s : model.Server) (records : List model.Record) (bodies : List (List ℕ)) : Type 0 where
  pub settled : JournalSettled seen may_leave journal bodies
  pub spelled : SpellOver base bodies records
  pub for_state : StandsOver base records s
  pub plain : base ≡ [] → RecordRecovers records s
  pub used : s.journal ≡ journal.used

-- A server's records are of version 2, and none makes an open that deletes the root on close. As long as no call of the disk failed,
-- the state counts the bytes that the journal uses.
pub record HoldsOver {D : Type 0} (told : Type 0) (seen : D → List ℕ) (may_leave : D → List ℕ → Type 0) (base : List SnapshotPiece)
    (c : ServerState D) (s : model.Server) (L : Logons) (records : List model.Record) : Type 0 where
  pub shown : ServerShown c.tables s L
  pub fits : Fits s
  pub version : s.version ≡ 2
  pub sound : all_sound records ≡ true
  pub stopped_is : c.stopped ≡ c.journal.stopped
  pub used : c.stopped ≡ None → s.journal ≡ c.journal.used
  pub stands : c.stopped ≡ None → told
      → (bodies : List (List ℕ)) × JournaledStands seen may_leave base c.journal s records bodies

-- a server whose journal was never written anew: its disk stands for all of its records
abbrev pub JournaledHolds : {D : Type 0} → Type 0 → (D → List ℕ) → (D → List ℕ → Type 0) → ServerState D → model.Server → Logons
    → List model.Record → Type 0
JournaledHolds told seen may_leave c s L records = HoldsOver told seen may_leave [] c s L records

-- what a server that goes on holds but for what its tables show
pub record JournaledHeld {D : Type 0} (told : Type 0) (seen : D → List ℕ) (may_leave : D → List ℕ → Type 0) (base : List SnapshotPiece)
    (c : ServerState D) (s : model.Server) (records : List model.Record) : Type 0 where
  pub fits : Fits s
  pub version : s.version ≡ 2
  pub sound : all_sound records ≡ true
  pub goes_on : c.stopped ≡ None
  pub stopped_is : c.stopped ≡ c.journal.stopped
  pub used : s.journal ≡ c.journal.used
  pub stands : told → (bodies : List (List ℕ)) × JournaledStands seen may_leave base c.journal s records bodies

-- ---- an event that has an answer: the model's step of the event that it is, and beside the reply the parts of a logon

-- no call of the disk has failed, so the records of the answer stand on it
abbrev pub StepAnswers : {D : Type 0} → Type 0 → (D → List ℕ) → (D → List ℕ → Type 0) → List SnapshotPiece → ServerState D → model.Server
    → Logons → List model.Record
    → ℕ → ServerEvent → Answer → model.Answer → Type 0
StepAnswers told seen may_leave base c s L records now e r A =
    let p = progress_of (heard_event c.tables.config.users L s e) A.reply in
    (c.stopped ≡ None) × (reply_of r.reply ≡ A.reply) × (r.acted ≡ A.acted)
    × BesideReply c.tables.config.users L e now p r.token r.keys r.channel
    × HoldsOver told seen may_leave base c A.server (logons_behind c.tables.config.users L e now p) (records ++ A.records)

-- ---- an event that has none

-- an open has expired alone, as one may in front of the event, its records in a body of their own
abbrev pub ExpiredAlone : {D : Type 0} → Type 0 → (D → List ℕ) → (D → List ℕ → Type 0) → List SnapshotPiece → ServerState D → model.Server
    → Logons → List model.Record
    → ℕ → model.ServerEvent → Type 0
ExpiredAlone told seen may_leave base c s L records now e = (o : ℕ) × (t : model.Server) × Expires s now e t o
    × HoldsOver told seen may_leave base c t L (records ++ alone_records s now e o)

-- a state that the tables show with the journal's bytes as they were before the disk failed
abbrev pub uncounted : model.Server → model.Server → model.Server
uncounted s t = record t { journal = s.journal }

-- the tables have the event's change, or that of the expiry alone, where memory ran out before the disk failed
abbrev pub ChangedUncounted : {D : Type 0} → ServerState D → model.Server → Logons → ℕ → model.ServerEvent → Logons → Type 0
ChangedUncounted c s L now e M = ServerShown c.tables (uncounted s (step s now e).server) M
    ⊎ ((o : ℕ) × (t : model.Server) × Expires s now e t o × ServerShown c.tables (uncounted s t) L)

abbrev pub EventRefused : {D : Type 0} → Type 0 → (D → List ℕ) → (D → List ℕ → Type 0) → List SnapshotPiece → (D → ℕ) → EventError
    → ServerState D → ServerState D
    → model.Server → Logons → List model.Record → ℕ → model.ServerEvent → Logons → Type 0
EventRefused told seen may_leave base faults Memory old new s L records now e M = (new.stopped ≡ None)
    × (HoldsOver told seen may_leave base new s L records ⊎ ExpiredAlone told seen may_leave base new s L records now e)
EventRefused told seen may_leave base faults (DiskFault count) old new s L records now e M =
    (old.stopped ≡ None) × (new.stopped ≡ Some count) × Rose (faults old.journal.disk) count × (count
    ≡ faults new.journal.disk)
    × ChangedUncounted new s L now e M
EventRefused told seen may_leave base faults (Stopped count) old new s L records now e M = (old.stopped ≡ Some count)
    × (new ≡ old)

-- what an event answers
abbrev pub EventAnswers : {D : Type 0} → Type 0 → (D → List ℕ) → (D → List ℕ → Type 0) → List SnapshotPiece → (D → ℕ) → ServerState D
    → ServerState D
    → Users → model.Server → Logons → List model.Record → ℕ → ServerEvent → Result Answer EventError → Type 0
EventAnswers told seen may_leave base faults old new users s L records now e result =
    let ev = heard_event users L s e in MatchResult result
    (λ r. StepAnswers told seen may_leave base new s L records now e r (step s now ev))
    (λ x. EventRefused told seen may_leave base faults x old new s L records now ev
    (logons_behind users L e now (progress_of ev (step s now ev).reply)))

-- ---- a crash at any moment of an event

-- what it leaves stands for the bodies before, or for these and the event's one body, or for these and that of an expiry alone
abbrev pub EventLeavesBodies : model.Server → ℕ → model.ServerEvent → List (List ℕ) → List ℕ → Type 0
EventLeavesBodies s now e bodies bytes = StandsFor bytes bodies
    ⊎ ((more : List (List ℕ)) × OneBody (step s now e).records more × StandsFor bytes (bodies ++ more))
    ⊎ ((o : ℕ) × (t : model.Server) × (more : List (List ℕ)) × Expires s now e t o
    × OneBody (alone_records s now e o) more
    × StandsFor bytes (bodies ++ more))

-- the bodies of a server that goes on
abbrev pub JournaledGoesOn : {D : Type 0} → (D → List ℕ) → (D → List ℕ → Type 0) → List SnapshotPiece → ServerState D → model.Server
    → List model.Record
    → List (List ℕ) → Type 0
JournaledGoesOn seen may_leave base c s records bodies = (c.stopped ≡ None) × JournaledStands seen may_leave base c.journal s records bodies
