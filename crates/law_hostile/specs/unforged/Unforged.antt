-- What the ends of a repeat run take with a valid signature was signed for its place, or a message is forged.
use Rattle.std.specs.Prelude.{◌⊎◌, List, [], ◌∷◌}
use Rattle.spec_world.specs.Settings.{WorldSettings}
use Rattle.spec_hostile.specs.RepeatRuns.{RepeatEvent}
use Rattle.spec_hostile.specs.SignedFor.{Watched, SignedEntry, Takes, WasSigned, HasForged, watched_happens}

-- in one event
abbrev pub EventSigned : WorldSettings → Watched → RepeatEvent → Type 0
EventSigned z t e = (x : SignedEntry) → Takes z t x e → WasSigned t x

-- in each event of a run
abbrev pub AllSigned : WorldSettings → List RepeatEvent → Watched → Type 0
AllSigned z [] t = Unit {0}
AllSigned z (e ∷ es) t = EventSigned z t e × AllSigned z es (watched_happens z t e)

-- a run is of one of both kinds
abbrev pub ForgedOrSigned : Type 0
ForgedOrSigned = (z : WorldSettings) (es : List RepeatEvent) (t : Watched) → HasForged z es t ⊎ AllSigned z es t

-- and of one alone
abbrev pub ForgedApart : Type 0
ForgedApart = (z : WorldSettings) (es : List RepeatEvent) (t : Watched) → HasForged z es t → AllSigned z es t → ⊥
