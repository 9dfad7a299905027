-- The success of a CREATE tells an open.
use Rattle.std.specs.Prelude.{◌≡◌, ℕ, List, ◌∷◌}
use Rattle.spec_exchange.specs.Status.{success}
use Rattle.spec_exchange.specs.Commands.{Create, CreateRequest}
use Rattle.spec_exchange.specs.State.{Body, CreateReply, Created}
use Rattle.spec_exchange.specs.Network.{Event, Settings, Sent, answer, run, start}

abbrev pub TellsOpen : Body → Type 0
TellsOpen b = (reply : CreateReply) × (b ≡ Created reply)

-- of what waits
abbrev pub CreatesTell : Type 0
CreatesTell =
    (z : Settings) (events : List Event) (k : ℕ) (x : Sent) (xs : List Sent) (r : CreateRequest) →
    ((run events (start z)).conns k).up ≡ x ∷ xs → x.message.command ≡ Create r → (answer (run events (start z)) x).reply.status ≡ success →
    TellsOpen (answer (run events (start z)) x).reply.body
