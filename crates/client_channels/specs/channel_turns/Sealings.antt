-- What a channel sealed on its links, and under which nonces (MS-SMB2 2.2.41, 3.1.4.3): of each message that went out, in part or whole. That
-- its frame is sealed so is said where it is made, by `LineCounts` and `DialogHears`.
use Rattle.std.specs.Prelude.{ℕ, zero, suc, ◌-◌, Bool, List, [], ◌∷◌, ◌++◌, if◌then◌else◌}
use Rattle.spec_crypto.specs.sessions.Nonces.{NonceState}
use Rattle.client_ends.specs.declared.ends.config.ClientConfig.{ClientConfig}
use Rattle.client_ends.specs.declared.ends.dialog.Stage.{Stage}
use Rattle.client_ends.specs.declared.ends.dialog.Stage.TheVariants.{AskedTree}
use Rattle.client_ends.specs.declared.ends.line.Line.{Line}
use Rattle.client_channels.specs.channel_turns.Links.{On, StepBy, StepKind, StepsIn, Writes, WritesPart}
use Rattle.client_channels.specs.channel_turns.Rounds.{Been, Connects, GoesRound, RoundBy, RoundKind, RoundsIn}
use Rattle.client_channels.specs.channel_turns.Sides.{Runs, Side, Talks}
use Rattle.client_channels.specs.declared.channel_turns.starting.Aim.{Aim}

-- the key to the server, and the nonce
pub record Sealing : Type 0 where
  pub key : List ℕ
  pub nonce : NonceState

-- what a line sealed last: the nonce in front of its next one
abbrev pub sealed_behind : Line → List Sealing
sealed_behind l =
    if l.encrypts then record { key = l.keys.to_server; nonce = record l.nonces { counter = l.nonces.counter - 1 } } ∷ [] else []

-- a dialog has a session's keys once it asked for its tree
abbrev pub sealed_in_dialog : Stage → Line → List Sealing
sealed_in_dialog AskedTree l = sealed_behind l
sealed_in_dialog _ l = []

-- of a message, by the side that is behind it
abbrev pub sealed_said : Side → List Sealing
sealed_said (Runs l) = sealed_behind l
sealed_said (Talks d) = sealed_in_dialog d.stage d.line
sealed_said _ = []

module _ {K : Type 0} (told : Type 0) (given left written : K → List ℕ) (faults : K → ℕ) (ended : K → Bool) (bars : ℕ → ℕ → Type 0) where
  -- of one step, and of a link's steps in their order
  abbrev pub sealed_by : (aim : Aim) (channel : ℕ) (kind : StepKind) (x y : On K)
      → StepBy told given left written faults ended bars aim channel kind x y → List Sealing
  sealed_by aim channel Writes x y step = sealed_said step.side
  sealed_by aim channel WritesPart x y step = sealed_said step.side
  sealed_by aim channel _ x y step = []

  abbrev pub sealed_on_link : (aim : Aim) (channel n : ℕ) (x y : On K)
      → StepsIn told given left written faults ended bars aim channel n x y → List Sealing
  sealed_on_link aim channel zero x y steps = []
  sealed_on_link aim channel (suc n) x y (z, steps, (kind, step)) =
      sealed_on_link aim channel n x z steps ++ sealed_by aim channel kind z y step

  module _ (config : ClientConfig) (seed : List ℕ) (channel : ℕ) {N : Type 0} (net_faults : N → ℕ) where
    -- of one round, and of a channel's rounds in their order
    abbrev pub sealed_in_round : (kind : RoundKind) (x y : Been)
        → RoundBy told given left written faults ended bars config seed channel net_faults kind x y → List Sealing
    sealed_in_round Connects x y round =
        sealed_on_link round.aim channel round.uses.passes.count _ _ round.uses.passes.steps
    sealed_in_round _ x y round = []

    abbrev pub sealed_in_rounds : (n : ℕ) (x y : Been)
        → RoundsIn told given left written faults ended bars config seed channel net_faults n x y → List Sealing
    sealed_in_rounds zero x y rounds = []
    sealed_in_rounds (suc n) x y (z, rounds, (kind, round)) = sealed_in_rounds n x z rounds ++ sealed_in_round kind z y round

    abbrev pub sealed_over : (x y : Been)
        → GoesRound told given left written faults ended bars config seed channel net_faults x y → List Sealing
    sealed_over x y rounds = sealed_in_rounds rounds.count x y rounds.rounds
