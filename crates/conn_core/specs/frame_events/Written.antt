-- The records that a frame's events wrote: each its own, and one that found no memory none, or those of the expiry alone.
use Rattle.std.specs.Prelude.{◌≡◌, ℕ, true, false, List, [], ◌∷◌, ◌++◌, Option, Some, None, Result, Ok, Err}
use Rattle.spec_exchange.specs.State.{Server, Message, Heard, Record}
use Rattle.spec_exchange.specs.Network.{answer_to}
use Rattle.spec_world.specs.Settings.{ServerSettings}
use Rattle.spec_world.specs.Ends.{ServerEnd, Logons, ConnEnd}
use Rattle.spec_world.specs.Hearing.{Checked, Frame}
use Rattle.spec_world.specs.Related.{Turn, Goes, Fails, turn_of}
use Rattle.spec_world.specs.Connection.{heard_message}
use Rattle.spec_world.specs.Given.{has_event}
use Rattle.spec_world.specs.Mishaps.{Mishap, Lacks, Halts, Owned, owning, owned_turn}
use Rattle.conn_core.specs.served.Serving.{LeftBy}

abbrev pub WritesIt : Server → ℕ → Message → Option Mishap → List Record → Type 0
WritesIt s now m None more = more ≡ (answer_to s now m m.command).records
WritesIt s now m (Some (Lacks t)) more = LeftBy s now (Heard m) t more
WritesIt s now m (Some (Halts count)) more = more ≡ []

abbrev pub WritesNext : Owned → ℕ → Message → List (Option Mishap) → List Record → Type 0
WritesNext w now m [] more = more ≡ []
WritesNext w now m (x ∷ xs) more = WritesIt w.dealt.going.server now m x more

-- a message without an event writes none
abbrev pub WritesHeard : Owned → ℕ → Option Message → List Record → Type 0
WritesHeard w now None more = more ≡ []
WritesHeard w now (Some m) more =
    (has_event m.command ≡ true → WritesNext w now m w.mishaps more) × (has_event m.command ≡ false → more ≡ [])

abbrev pub WritesTurn : ServerSettings → ℕ → ℕ → ServerEnd → Owned → Turn → List Record → Type 0
WritesTurn z k now f w (Goes c) more = WritesHeard w now (heard_message z w.dealt.going.logons k f c) more
WritesTurn z k now f w (Fails status) more = more ≡ []

-- in their order
unfoldable pub WriteAll : ServerSettings → ℕ → ℕ → List ℕ → ServerEnd → Owned → List Checked → List Record → Type 0
WriteAll z k now fresh f w [] more = more ≡ []
WriteAll z k now fresh f w (c ∷ cs) more =
    (first : List Record) × (rest : List Record) × WritesTurn z k now f w (turn_of w.dealt.going.carried c) first
    × WriteAll z k now fresh f (owned_turn z k now fresh f w c (turn_of w.dealt.going.carried c)) cs rest × (more ≡ first ++ rest)

-- of a frame whose events this befell
abbrev pub AreWritten : ServerSettings → ℕ → ℕ → List ℕ → Server → Logons → List (Option Mishap) → Result Frame ConnEnd → List Record
    → Type 0
AreWritten z k now fresh s L mishaps (Err why) more = more ≡ []
AreWritten z k now fresh s L mishaps (Ok x) more =
    WriteAll z k now fresh x.server_end (owning s L x.server_end mishaps) x.messages more
