-- What waits of a dialog is the message of its stage, as the client would make it now.
use Rattle.std.specs.Prelude.{◌≡◌, ℕ, true, List, ◌∷◌}
use Rattle.spec_exchange.specs.Client.{Client, Stage}
use Rattle.spec_exchange.specs.Dialogs.{dialog_message}
use Rattle.spec_exchange.specs.Schedules.{is_talking}
use Rattle.spec_exchange.specs.Network.{Conn, Event, Settings, Sent, run, start}

abbrev pub IsStageMessage : Client → ℕ → Stage → Sent → Type 0
IsStageMessage c k stage x = (id : ℕ) × (x.message ≡ dialog_message c k id stage)

-- of one connection
abbrev pub ExactAt : Client → ℕ → Stage → Conn → Type 0
ExactAt c k stage d =
    d.client_open ≡ true → is_talking stage ≡ true → (x : Sent) (xs : List Sent) → d.up ≡ x ∷ xs → IsStageMessage c k stage x

abbrev pub AreExact : Client → (ℕ → Conn) → Type 0
AreExact c conns = (k : ℕ) → ExactAt c k (c.stage k) (conns k)

-- over every run of the model
abbrev pub MessagesAreExact : Type 0
MessagesAreExact = (z : Settings) (events : List Event) → AreExact (run events (start z)).client (run events (start z)).conns
