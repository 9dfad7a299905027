-- A frame whose events had no mishap.
use Rattle.std.specs.Prelude.{◌≡◌, ℕ, true, false, List, [], ◌∷◌, Option, Some, None, ⊤}
use Rattle.spec_exchange.specs.State.{Server}
use Rattle.spec_world.specs.Settings.{ServerSettings}
use Rattle.spec_world.specs.Ends.{ServerEnd, Logons, Stopped}
use Rattle.spec_world.specs.Connection.{connection_step}
use Rattle.spec_world.specs.Mishaps.{Mishap, owned_step}

abbrev pub NoneBefell : List (Option Mishap) → Type 0
NoneBefell [] = ⊤
NoneBefell (None ∷ xs) = NoneBefell xs
NoneBefell (Some x ∷ xs) = ⊥

-- where just as much is told as it has events, and nothing befell any, its step is the connection's own
abbrev pub OwnStep : Type 0
OwnStep =
    (z : ServerSettings) (k now : ℕ) (fresh : List ℕ) (s : Server) (L : Logons) (f : ServerEnd) (mishaps : List (Option Mishap))
    (frame : List ℕ) → NoneBefell mishaps → (owned_step z k now fresh s L f mishaps frame).matches ≡ true
    → (owned_step z k now fresh s L f mishaps frame).step ≡ connection_step z k now fresh s L f frame

-- and nothing befell any where just as much is told as it has events, none found no memory, and the server goes on
abbrev pub NothingBefell : Type 0
NothingBefell =
    (z : ServerSettings) (k now : ℕ) (fresh : List ℕ) (s : Server) (L : Logons) (f : ServerEnd) (mishaps : List (Option Mishap))
    (frame : List ℕ) → (owned_step z k now fresh s L f mishaps frame).matches ≡ true
    → (owned_step z k now fresh s L f mishaps frame).lacked ≡ false
    → ((count : ℕ) → (owned_step z k now fresh s L f mishaps frame).step.ends ≡ Some (Stopped count) → ⊥) → NoneBefell mishaps
