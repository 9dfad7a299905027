-- Lists of events of what goes out on a connection, and the order of its responses.
use Rattle.std.specs.Prelude.{ℕ, zero, suc, ◌==◌, Bool, true, false, if◌then◌else◌, List, [], ◌∷◌, Option, None}
use Rattle.law_waiting.specs.out_steps.OutStep.{Speaks, OutPiece, Plain, Pending, Last, OutState, OutEvent, Fault, out_step}

pub record OutTurn (A R E : Type 0) : Type 0 where
  pub event : OutEvent A R
  pub fault : Option (Fault E)

abbrev pub opened : {C A E : Type 0} → C → OutState C A E
opened c = record { conn = c; written = []; requests = []; finals = []; ended = None }

unfoldable pub out_behind : {C A R E : Type 0} → Speaks C A R E → OutState C A E → List (OutTurn A R E) → OutState C A E
out_behind z s [] = s
out_behind z s (t ∷ ts) = out_behind z (out_step z s t.event t.fault).state ts

abbrev pub written_by : {C A R E : Type 0} → Speaks C A R E → OutState C A E → List (OutTurn A R E) → List OutPiece
written_by z s ts = (out_behind z s ts).written

-- n interim responses of this id have no final one yet: one more, one less, and none below none
abbrev pub one_less : ℕ → (ℕ → Bool) → Bool
one_less zero rest = false
one_less (suc n) rest = rest n

unfoldable pub is_in_order : ℕ → ℕ → List OutPiece → Bool
is_in_order id n [] = true
is_in_order id n (Plain bytes ∷ ps) = is_in_order id n ps
is_in_order id n (Pending i bytes ∷ ps) = if i == id then is_in_order id (suc n) ps else is_in_order id n ps
is_in_order id n (Last i bytes ∷ ps) = if i == id then one_less n (λ m. is_in_order id m ps) else is_in_order id n ps
