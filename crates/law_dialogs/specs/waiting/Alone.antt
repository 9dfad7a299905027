-- A dialog's message that waits for the server is alone in its list, also where the client's end has closed.
use Rattle.std.specs.Prelude.{◌≡◌, ℕ, List, [], ◌∷◌}
use Rattle.spec_exchange.specs.Network.{Conn, Event, Settings, Sent, ForDialog, run, start}

-- no message of a dialog waits
abbrev pub NoDialogs : List Sent → Type 0
NoDialogs [] = Unit {0}
NoDialogs (x ∷ xs) = (x.token ≡ ForDialog → ⊥) × NoDialogs xs

-- at most one message waits, or none of them is a dialog's
pub data IsOneOr (xs : List Sent) : Type 0 where
  Nothing : xs ≡ [] → IsOneOr xs
  One : (x : Sent) → xs ≡ x ∷ [] → IsOneOr xs
  Operations : NoDialogs xs → IsOneOr xs

abbrev pub AreAlone : (ℕ → Conn) → Type 0
AreAlone conns = (k : ℕ) → IsOneOr (conns k).up

-- over every run of the model
abbrev pub DialogsAreAlone : Type 0
DialogsAreAlone =
    (z : Settings) (events : List Event) (k : ℕ) (x : Sent) (xs : List Sent) → ((run events (start z)).conns k).up ≡ x ∷ xs →
    x.token ≡ ForDialog → xs ≡ []
