-- What making a verdict ready comes to, and what it leaves.
use Rattle.std.specs.Prelude.{◌≡◌, ◌<◌, ℕ, Bool, true, false, Result, MatchResult, ⊤}
use Rattle.spec_exchange.specs.Commands as asks
use Rattle.spec_exchange.specs.State as model
use Rattle.spec_exchange.specs.Verdict as verdicts
use Rattle.store_opens.specs.open_table.Shown.{HasOpensRoom, HasRoomIn, next_of}
use Rattle.store_opens.specs.declared.open_table.row.Row.{Row}
use Rattle.law_server.specs.tables.Fits.{Fits}
use Rattle.server_checks.specs.session_table.Logons.{LogonsStay}
use Rattle.server_checks.specs.Shown.{TablesShown}
use Rattle.server_checks.specs.declared.tables.Tables.{Tables}
use Rattle.server_effects.specs.Able.{Able}
use Rattle.server_effects.specs.Ready.{ChangeFor, FilesForChange}
use Rattle.server_effects.specs.declared.changing.ChangeReady.{ChangeReady}
use Rattle.server_effects.specs.reserved.Room.{IsReadied}
use Rattle.server_effects.specs.reserved.Readied.{reserved_changed, readied}
use Rattle.server_effects.specs.declared.reserved.ready.Ready.{Ready}
use Rattle.server_effects.specs.declared.reserved.ready.Ready.TheVariants as readies

-- the session of a new open is there: its user is the open's
abbrev pub SessionIsThere : model.Server → model.Message → verdicts.Verdict → Type 0
SessionIsThere s m (verdicts.Make request found action) = s.present m.session_id ≡ true
SessionIsThere s m _ = ⊤

-- what is ready stands for the verdict, and the tables have all that its effect wants
pub record IsReadyFor (t : Tables) (s : model.Server) (m : model.Message) (now : ℕ) (v : verdicts.Verdict) (r : Ready) : Type 0 where
  pub verdict_is : readied m.command r ≡ v
  pub is_ready : IsReadied t s m now r

-- or, where memory ran out, they show the state as before
abbrev pub VerdictReadies : {E : Type 0} → Tables → Tables → model.Message → ℕ → verdicts.Verdict → Result Ready E → Type 0
VerdictReadies old new m now v result = (s : model.Server) → Fits s → TablesShown old s → Able s m v → SessionIsThere s m v
    → MatchResult result (λ r. IsReadyFor new s m now v r) (λ _. TablesShown new s)

-- ---- what it doesn't touch: the configuration, the logons, the journal's count, and the room to put back an open that was taken out
-- in front of it

pub record TablesKeep (old new : Tables) : Type 0 where
  pub config : new.config ≡ old.config
  pub logons : LogonsStay old.sessions new.sessions
  pub room : HasOpensRoom old.opens → HasOpensRoom new.opens
  pub undated : new.opens.undated.items ≡ old.opens.undated.items
  pub journal : new.journal ≡ old.journal
  pub version : new.version ≡ old.version

-- ---- what wants no memory

-- a verdict whose effect wants some
abbrev pub wants_memory : verdicts.Verdict → Bool
wants_memory (verdicts.KeepRefusal guid status) = true
wants_memory (verdicts.Repeat id request) = true
wants_memory (verdicts.Attach id request) = true
wants_memory (verdicts.Make request found action) = true
wants_memory (verdicts.Alter id change body) = true
wants_memory verdicts.Challenge = true
wants_memory (verdicts.ChallengeBinding session) = true
wants_memory (verdicts.Begin session user previous request quiet) = true
wants_memory (verdicts.Join session) = true
wants_memory (verdicts.AddTree pipes) = true
wants_memory verdicts.DropTree = true
wants_memory _ = false

abbrev pub IsVerdictPlain : Ready → Type 0
IsVerdictPlain (readies.KeepRefusal guid status) = ⊥
IsVerdictPlain (readies.Repeat id) = ⊥
IsVerdictPlain (readies.Attach id) = ⊥
IsVerdictPlain (readies.Make file row) = ⊥
IsVerdictPlain (readies.Alter id change body acts) = ⊥
IsVerdictPlain (readies.Setup step) = ⊥
IsVerdictPlain (readies.AddTree pipes) = ⊥
IsVerdictPlain (readies.DropTree opens) = ⊥
IsVerdictPlain _ = ⊤

-- anything but a step of a logon
abbrev pub HasNoStep : Ready → Type 0
HasNoStep (readies.Setup step) = ⊥
HasNoStep _ = ⊤

-- ---- a change of a file

pub record IsChangeReady (t : Tables) (s : model.Server) (f : ℕ) (k : asks.Command) (c : verdicts.Change) (r : ChangeReady) : Type 0 where
  pub changed_is : reserved_changed k r ≡ c
  pub stands : ChangeFor t s f r c
  pub files : FilesForChange t s r

-- ---- the room for a row

pub record HasRowRoom (t : Tables) (row : Row) : Type 0 where
  pub room : HasOpensRoom t.opens
  pub session : HasRoomIn t.opens row.session (next_of t.opens) row.persistent
  pub given : t.opens.given < 0xffff_ffff
