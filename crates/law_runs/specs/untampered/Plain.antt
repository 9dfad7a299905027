-- Every run without tampering, of settings that fit, is one of the model.
use Rattle.std.specs.Prelude.{◌≡◌, ℕ, ◌+◌, ◌^◌, ◌<◌, ◌≤◌, true, List, length}
use Rattle.spec_exchange.specs.Operations.{Op, keeps_limits, request_of, reconnect_of}
use Rattle.spec_exchange.specs.Network.{Event}
use Rattle.spec_commands.specs.BodyOf.{body_of}
use Rattle.spec_world.specs.Settings.{WorldSettings}
use Rattle.spec_world.specs.Events.{bytes_start}
use Rattle.spec_world.specs.Statements.{plain_run, NoncesOnce}
use Rattle.law_ties.specs.wire_facts.Fitting.{IsFitting}
use Rattle.law_ties.specs.wire_facts.Steps.{restarts_in, submits_in, RepliesAreHeard}
use Rattle.law_nonces.specs.client_nonces.Sent.{HasSealingRoom}
use Rattle.law_dialogs.specs.runs.Bounds.{RunsInStep}

-- the requests of an operation that is taken fit a frame
abbrev pub RequestsAreShort : Type 0
RequestsAreShort =
    (op : Op) (guid file slot number : ℕ) → keeps_limits op ≡ true →
    (64 + length (body_of (request_of op guid file slot number)) ≤ 1114060) × (64 + length (body_of (reconnect_of op guid file)) ≤ 1114060)

-- The front of what comes down is heard as the reply that it was made for; and no nonce comes twice, where no binding waits for its last
-- response behind 65,535 channels of a session.
pub record UntamperedGoesInStep (z : WorldSettings) (events : List Event) : Type 0 where
  pub runs : RunsInStep z events
  pub replies : RepliesAreHeard (plain_run z events)
  pub nonces : HasSealingRoom z events (bytes_start z) → NoncesOnce (plain_run z events)

abbrev pub PlainRunsGoInStep : Type 0
PlainRunsGoInStep =
    (z : WorldSettings) (events : List Event) → IsFitting z → restarts_in events < 4294967295 → submits_in events < 2 ^ 64 →
    UntamperedGoesInStep z events
