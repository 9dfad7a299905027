-- A dialog that begins.
use Rattle.std.specs.Prelude.{◌≡◌, ℕ, ◌≤◌, Bool, List, [], ◌∷◌, Option, Some, None, is_some, ⊤}
use Rattle.spec_wire.specs.credits.Purse.{after_spend, first_purse}
use Rattle.spec_exchange.specs.Table.{put}
use Rattle.spec_exchange.specs.Client.{SaidNegotiate}
use Rattle.spec_exchange.specs.Network.{ForDialog}
use Rattle.spec_exchange.specs.State.{Message}
use Rattle.spec_crypto.specs.declared.sessions.material.Keys.{Keys}
use Rattle.spec_world.specs.Ends.{ClientEnd, no_choice}
use Rattle.spec_world.specs.Sending.{greeting_text}
use Rattle.client_ends.specs.declared.ends.config.Bound.{Bound}
use Rattle.client_ends.specs.declared.ends.config.ClientConfig.{ClientConfig}
use Rattle.client_ends.specs.declared.ends.config.Fresh.{Fresh}
use Rattle.client_ends.specs.declared.ends.dialog.Dialog.{Dialog}
use Rattle.client_ends.specs.declared.ends.dialog.Stage.TheVariants as stages
use Rattle.client_ends.specs.declared.ends.line.Line.{Line}
use Rattle.client_ends.specs.ends.Shown.{ShowsDialog, EndShowsTalk, settings_of}
use Rattle.client_ends.specs.dialog_requests.Dialogs.{IsDialogs}

-- the session's keys are of a known cipher, or of none
abbrev pub CanBind : Option Bound → Type 0
CanBind None = ⊤
CanBind (Some b) = b.keys.cipher ≤ 4

-- an end as an Open leaves it, whose NEGOTIATE went out; a binding has its session's keys
abbrev pub opened_end : Fresh → Bool → Keys → Bool → List ℕ → ClientEnd
opened_end fresh bound keys encrypts greeting = record {
  stage = SaidNegotiate bound;
  purse = after_spend 1 first_purse;
  awaited = put (λ id. None) 0 (Some ForDialog);
  base = fresh.key;
  challenge = fresh.challenge;
  chosen = no_choice;
  transcript = greeting ∷ [];
  keys = keys;
  encrypts = encrypts;
  channel = 0;
  counter = 0;
}

-- the keys of a binding are its session's
abbrev pub AreKeysOf : Option Bound → Keys → Type 0
AreKeysOf None keys = ⊤
AreKeysOf (Some b) keys = keys ≡ b.keys

-- a line whose first message went out, without keys
pub record IsSpent (l : Line) : Type 0 where
  pub talk : (n : ClientEnd) → n.purse ≡ after_spend 1 first_purse → n.awaited ≡ put (λ id. None) 0 (Some ForDialog) → EndShowsTalk l n
  pub plain : l.keys.cipher ≤ 4

-- the same, with the keys of a binding
pub record HasKeys (bound : Option Bound) (l : Line) : Type 0 where
  pub talk : (n : ClientEnd) → n.purse ≡ after_spend 1 first_purse → n.awaited ≡ put (λ id. None) 0 (Some ForDialog) → EndShowsTalk l n
  pub keys : AreKeysOf bound l.keys
  pub known : l.keys.cipher ≤ 4

-- the dialog and its NEGOTIATE
pub record DialogBegins (c : ClientConfig) (fresh : Fresh) (before : ℕ) (to : Option Bound) (d : Dialog) (greeting : List ℕ) : Type 0 where
  pub said : (m : Message) → IsDialogs m 0 0 → greeting ≡ greeting_text (settings_of c) fresh.salt m
  pub shown : (keys : Keys) (encrypts : Bool) → AreKeysOf to keys → ShowsDialog d (opened_end fresh (is_some to) keys encrypts greeting)
  pub config : d.config ≡ c
  pub stage : d.stage ≡ stages.SaidNegotiate
  pub previous : d.previous ≡ before
  pub bound : d.bound ≡ to
  pub session : d.session ≡ 0
