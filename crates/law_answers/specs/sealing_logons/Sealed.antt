-- A reply that tells that messages are sealed is to a client that has a cipher.
use Rattle.std.specs.Prelude.{◌≡◌, ℕ, ◌==◌, Bool, true, false, List, ◌∷◌}
use Rattle.spec_exchange.specs.Commands.{Command, Aside, Setup}
use Rattle.spec_exchange.specs.State.{Server, Body, SetUp}
use Rattle.spec_exchange.specs.Network.{Event, Settings, Sent, answer, run, start}

abbrev pub seals : Body → Bool
seals (SetUp encrypts channel) = encrypts
seals _ = false

-- what a connection answers of a dialog
abbrev pub sets_up : Command → Bool
sets_up (Aside status) = true
sets_up (Setup request) = true
sets_up _ = false

-- where the server encrypts, a session that is there has a cipher
abbrev pub Ciphered : Server → Type 0
Ciphered s = s.encrypts ≡ true → (x : ℕ) → s.present x ≡ true → (s.cipher x == 0) ≡ false

-- of what waits
abbrev pub SealsHaveCiphers : Type 0
SealsHaveCiphers =
    (z : Settings) (events : List Event) (k : ℕ) (x : Sent) (xs : List Sent) → ((run events (start z)).conns k).up ≡ x ∷ xs →
    sets_up x.message.command ≡ true → seals (answer (run events (start z)) x).reply.body ≡ true → (z.who.cipher == 0) ≡ false
