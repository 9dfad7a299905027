-- Every reply's status fits its field of 4 bytes.
use Rattle.std.specs.Prelude.{◌≡◌, ℕ, ◌^◌, ◌<◌, List, ◌∷◌}
use Rattle.spec_exchange.specs.Network.{Event, Settings, Sent, answer, run, start}

-- of what waits
abbrev pub StatusesFit : Type 0
StatusesFit =
    (z : Settings) (events : List Event) (k : ℕ) (x : Sent) (xs : List Sent) → ((run events (start z)).conns k).up ≡ x ∷ xs →
    (answer (run events (start z)) x).reply.status < 256 ^ 4
