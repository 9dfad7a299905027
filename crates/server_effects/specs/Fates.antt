-- What becomes of a file whose open left, as the code names it.
use Rattle.std.specs.Prelude.{Bool, true, false}
use Rattle.server_effects.specs.declared.fates.Fate.{Fate}
use Rattle.server_effects.specs.declared.fates.Fate.TheVariants.{Stays, Unmarked, Goes}

-- of one that is kept back, or else goes, or else stays as it is
abbrev pub fate_of : Bool → Bool → Fate
fate_of true goes = Unmarked
fate_of false true = Goes
fate_of false false = Stays

abbrev pub removed_by : Fate → Bool
removed_by Stays = false
removed_by Unmarked = false
removed_by Goes = true

abbrev pub unmarked_by : Fate → Bool
unmarked_by Stays = false
unmarked_by Unmarked = true
unmarked_by Goes = false
