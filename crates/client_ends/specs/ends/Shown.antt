-- The client's end of a connection in code shows the end of the definitions: it keeps a value of the chain where they keep the
-- messages, and a list of requests where they have a table.
use Rattle.std.specs.Prelude.{◌≡◌, ℕ, ◌/◌, ◌%◌, ◌==◌, ◌≤◌, ◌<◌, Bool, true, if◌then◌else◌, List, [], ◌∷◌, Option, Some, None}
use Rattle.std.specs.Prelude.{is_some, vec_len, vec_capacity}
use Rattle.spec_exchange.specs.Client as client
use Rattle.spec_exchange.specs.Network.{Token, ForDialog, ForOp, ForAttach}
use Rattle.spec_crypto.specs.sessions.Chain.{chain}
use Rattle.crypto_sessions.specs.session_keys.Sealing.{HasCipher}
use Rattle.spec_world.specs.Ends.{ClientEnd}
use Rattle.spec_world.specs.Settings.{ClientSettings}
use Rattle.client_ends.specs.declared.ends.config.ClientConfig.{ClientConfig}
use Rattle.client_ends.specs.declared.ends.line.Line.{Line}
use Rattle.client_ends.specs.declared.ends.line.Outstanding.{Outstanding}
use Rattle.client_ends.specs.declared.ends.dialog.Dialog.{Dialog}
use Rattle.client_ends.specs.declared.ends.dialog.Stage.{Stage}
use Rattle.client_ends.specs.declared.ends.dialog.Stage.TheVariants.{SaidNegotiate, SaidFirst, SaidSecond, AskedTree, Joined, Refused, Over}

abbrev pub settings_of : ClientConfig → ClientSettings
settings_of c = record { user = c.user; password = c.password; guid = c.guid; ciphers = c.ciphers; signings = c.signings }

-- ---- the requests that wait

-- 0 is the dialog's, twice an operation's number its own request, and one more the request to attach its open in its place
abbrev pub token_of : ℕ → Token
token_of token = if token == 0 then ForDialog else if token % 2 == 0 then ForOp (token / 2) else ForAttach (token / 2)

abbrev pub end_later : Option Token → Option Token → Option Token
end_later None first = first
end_later (Some token) first = Some token

-- whose request waits under an id; of two under one id the later one's
abbrev pub awaited_in : List Outstanding → ℕ → Option Token
awaited_in [] id = None
awaited_in (o ∷ os) id = end_later (awaited_in os id) (if id == o.id then Some (token_of o.token) else None)

-- one more request has room
abbrev pub HasEndRoom : Line → Type 0
HasEndRoom l = vec_len l.awaited < vec_capacity l.awaited

-- ---- a line

-- its credits and its requests
pub record EndShowsTalk (l : Line) (n : ClientEnd) : Type 0 where
  pub purse : n.purse ≡ l.purse
  pub awaited : (id : ℕ) → n.awaited id ≡ awaited_in l.awaited.items id

-- its keys and its nonces; where it seals there is a cipher
pub record ShowsSeals (l : Line) (n : ClientEnd) : Type 0 where
  pub keys : n.keys ≡ l.keys
  pub encrypts : n.encrypts ≡ l.encrypts
  pub sealing : l.encrypts ≡ true → HasCipher l.keys
  pub channel : n.channel ≡ l.nonces.channel
  pub counter : n.counter ≡ l.nonces.counter

abbrev pub ShowsLine : Line → ClientEnd → Type 0
ShowsLine l n = EndShowsTalk l n × ShowsSeals l n

-- what a change of the credits and the requests leaves alone
pub record EndKeeps (old new : Line) : Type 0 where
  pub keys : new.keys ≡ old.keys
  pub encrypts : new.encrypts ≡ old.encrypts
  pub nonces : new.nonces ≡ old.nonces

-- ---- a dialog

-- its stage is the definitions', which has none behind its end
abbrev pub IsStage : Stage → Bool → client.Stage → Type 0
IsStage SaidNegotiate bound s = s ≡ client.SaidNegotiate bound
IsStage SaidFirst bound s = s ≡ client.SaidFirst bound
IsStage SaidSecond bound s = s ≡ client.SaidSecond bound
IsStage AskedTree bound s = s ≡ client.AskedTree
IsStage Joined bound s = s ≡ client.Apart
IsStage (Refused why) bound s = ⊥
IsStage Over bound s = ⊥

-- in front of its last response a session's keys are only a binding's
pub record ShowsTalking (d : Dialog) (n : ClientEnd) : Type 0 where
  pub talk : EndShowsTalk d.line n
  pub base : n.base ≡ d.base
  pub challenge : n.challenge ≡ d.challenge
  pub chosen : n.chosen ≡ d.chosen
  pub transcript : chain n.transcript ≡ d.chain
  pub keys : is_some d.bound ≡ true → n.keys ≡ d.line.keys
  pub known : d.line.keys.cipher ≤ 4

-- behind it it has a line
abbrev pub ShowsStage : Stage → Dialog → ClientEnd → Type 0
ShowsStage AskedTree d n = ShowsLine d.line n
ShowsStage Joined d n = ShowsLine d.line n
ShowsStage _ d n = ShowsTalking d n

pub record ShowsDialog (d : Dialog) (n : ClientEnd) : Type 0 where
  pub stage : IsStage d.stage (is_some d.bound) n.stage
  pub shown : ShowsStage d.stage d n
