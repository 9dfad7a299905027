-- Sessions that are over, in repeat runs.
use Rattle.std.specs.Prelude.{◌≡◌, ℕ, List, [], ◌++◌}
use Rattle.spec_world.specs.Settings.{WorldSettings}
use Rattle.spec_hostile.specs.RepeatRuns.{RepeatEvent}
use Rattle.spec_hostile.specs.HostileNetwork.{repeated}
use Rattle.law_server.specs.tables.Fits.{Fits}
use Rattle.law_records.specs.recovery.Recovers.{RecordRecovers}
use Rattle.law_hostile.specs.loosely.LooseSessions.{NoMoreMade, IsOver}

-- the server's tables fit together, and what its records fold to stands for it
pub record RecordsStand (z : WorldSettings) (es : List RepeatEvent) : Type 0 where
  pub fits : Fits (repeated z es).world.values.server
  pub recorded : RecordRecovers (repeated z es).world.values.records (repeated z es).world.values.server

-- where the client offers no cipher
abbrev pub RepeatRecordsStand : Type 0
RepeatRecordsStand = (z : WorldSettings) (es : List RepeatEvent) → z.client.ciphers ≡ [] → RecordsStand z es

-- a session that isn't made any more stays so, and one that is over
pub record RepeatStaysOver (z : WorldSettings) (es more : List RepeatEvent) : Type 0 where
  pub made :
      (x : ℕ) → NoMoreMade (repeated z es).world.values.server x → NoMoreMade (repeated z (es ++ more)).world.values.server x
  pub over : (x : ℕ) → IsOver (repeated z es).world.values.server x → IsOver (repeated z (es ++ more)).world.values.server x

abbrev pub RepeatSessionsStayOver : Type 0
RepeatSessionsStayOver = (z : WorldSettings) (es more : List RepeatEvent) → z.client.ciphers ≡ [] → RepeatStaysOver z es more
