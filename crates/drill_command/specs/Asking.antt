-- The command that the words behind the program's name are: `drill`, or `gen` with two numbers.
use Rattle.std.specs.Prelude.{ℕ, ◌-◌, ◌^◌, if◌then◌else◌, List, [], ◌∷◌, codes, Option, Some, None}
use Rattle.std.specs.Str.{bytes_eq}
use Rattle.script_words.specs.Numbers.{number_to}
use Rattle.drill_command.specs.declared.words.Asked.{Asked}
use Rattle.drill_command.specs.declared.words.Asked.TheVariants.{Drill, Gen}

abbrev pub drill_in : List ℕ → Option Asked
drill_in word = if bytes_eq word (codes "drill") then Some Drill else None

abbrev pub gen_in : Option ℕ → Option ℕ → Option Asked
gen_in None operations = None
gen_in (Some seed) None = None
gen_in (Some seed) (Some operations) = Some (Gen seed operations)

-- behind the first word
abbrev pub asked_behind : List ℕ → List (List ℕ) → Option Asked
asked_behind word [] = drill_in word
asked_behind word (seed ∷ []) = None
asked_behind word (seed ∷ operations ∷ []) =
    if bytes_eq word (codes "gen") then gen_in (number_to (2 ^ 64 - 1) seed) (number_to 1048576 operations) else None
asked_behind word (seed ∷ operations ∷ next ∷ more) = None

abbrev pub asked_in : List (List ℕ) → Option Asked
asked_in [] = None
asked_in (word ∷ more) = asked_behind word more
