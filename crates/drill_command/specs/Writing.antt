-- A script that is made is written, piece by piece.
use Rattle.std.specs.Prelude.{◌≡◌, ℕ, ◌++◌, List, Option}
use Rattle.std.specs.Io.KnownBytes.{Appends}
use Rattle.base_outside.specs.streams.Faults.{Rose}
use Rattle.drill_command.specs.declared.writing.WriteError.{WriteError}
use Rattle.drill_command.specs.declared.writing.WriteError.TheVariants.{Memory, Failed}

-- the sink failed only where its count of faults rose; that memory ran out is free
abbrev pub FailsBy : ℕ → ℕ → WriteError → Type 0
FailsBy old new Memory = Unit {0}
FailsBy old new Failed = Rose old new

-- a front of the text was written
pub record Fronts (written written' : Option (List ℕ)) (text : List ℕ) : Type 0 where
  pub front : List ℕ
  pub rest : List ℕ
  pub wrote : Appends written written' front
  pub parts : front ++ rest ≡ text

-- what left the text was written
pub record Flushes (written written' : Option (List ℕ)) (old new : List ℕ) : Type 0 where
  pub front : List ℕ
  pub wrote : Appends written written' front
  pub parts : front ++ new ≡ old
