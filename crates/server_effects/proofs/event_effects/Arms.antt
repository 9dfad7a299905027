-- What each arm shows of what was prepared.
use Rattle.std.proofs.Common.{◌≡◌, ℕ, false, [], Option, refl}
use Rattle.wire_commands.specs.declared.values.request.Message.{Message}
use Rattle.spec_exchange.specs.State as model
use Rattle.spec_exchange.specs.Status.{insufficient_resources}
use Rattle.spec_exchange.specs.Step.{carried_out, connection_answer}
use Rattle.server_effects.specs.event_effects.Acts.{BesideOn}
use Rattle.server_checks.specs.event_heard.Heard.{event_of}
use Rattle.server_checks.specs.declared.event_heard.asked.Asked.{Asked}
use Rattle.server_checks.specs.declared.event_heard.asked.Asked.TheVariants as askings
use Rattle.server_checks.specs.declared.event_heard.asked.LogonPart.{LogonPart}
use Rattle.server_checks.specs.Shown.{TablesShown}
use Rattle.server_checks.specs.declared.tables.Tables.{Tables}
use Rattle.server_effects.specs.Carried.{Carried, IsEffectBare}
use Rattle.server_effects.specs.declared.answering.Answer.{Answer}
use Rattle.server_effects.specs.prepared_event.Prepared.{AbleOn, AbleToCarry, IsPrepared, ReadiedOn, prepared_ruling, readied_on}
use Rattle.server_effects.specs.declared.prepared_event.prepared.Prepared.{Prepared}
use Rattle.server_effects.specs.declared.reserved.ready.Ready.{Ready}
use Rattle.server_checks.specs.session_table.Logons.{LogonsStay}

abbrev pub ArmShows : Tables → Tables → Answer → model.Server → model.ServerEvent → ℕ → Prepared → Type 0
ArmShows old new r s e now p = IsPrepared old s now e p → AbleToCarry s e p → Carried new r (carried_out s now (prepared_ruling e p))

abbrev pub VerdictShows : Tables → Tables → Answer → model.Server → model.ServerEvent → ℕ → Ready → Type 0
VerdictShows old new r s e now x = ReadiedOn old s now e x → AbleOn s e x → Carried new r (carried_out s now (readied_on e x))

-- the event is no message
abbrev pub IsOther : Asked → Type 0
IsOther a = (m : Message) (l : Option LogonPart) → a ≡ askings.Says m l → ⊥

-- it has no verdict, and is turned away
pub other_shows : (old new : Tables) (r : Answer) (s : model.Server) (a : Asked) (now : ℕ) (x : Ready) → IsOther a
    → (TablesShown old s → Carried new r (connection_answer s insufficient_resources [] false))
    → VerdictShows old new r s (event_of a) now x
other_shows old new r s (askings.Accept k) now x n h = λ j b. h j
other_shows old new r s (askings.Says m l) now x n h = absurd (n m l refl)
other_shows old new r s (askings.End k) now x n h = λ j b. h j
other_shows old new r s askings.Stop now x n h = λ j b. h j

pub other_beside : (old new : Tables) (r : Answer) (a : Asked) (x : Ready) → IsOther a → IsEffectBare r
    × LogonsStay old.sessions new.sessions
    → BesideOn old new r (event_of a) x
other_beside old new r (askings.Accept k) x n h = h
other_beside old new r (askings.Says m l) x n h = absurd (n m l refl)
other_beside old new r (askings.End k) x n h = h
other_beside old new r askings.Stop x n h = h
