-- A dialog that ends: its TREE_CONNECT, and its line.
use Rattle.std.specs.Prelude.{◌≡◌, ℕ, ◌<◌, ◌^◌, ◌++◌, Bool, true, false, List, length}
use Rattle.spec_commands.specs.BodyOf.{body_of, host}
use Rattle.spec_exchange.specs.Commands.{TreeConnect}
use Rattle.spec_exchange.specs.Network.{ForDialog}
use Rattle.spec_exchange.specs.State.{Message}
use Rattle.spec_crypto.specs.declared.sessions.error.SealError.{SealError}
use Rattle.spec_crypto.specs.declared.sessions.error.SealError.TheVariants as seals
use Rattle.spec_wire.specs.messages.Utf16.{utf16}
use Rattle.spec_world.specs.Ends.{ClientEnd}
use Rattle.spec_world.specs.Sending.{line_frame, sealed_on, spent}
use Rattle.client_ends.specs.declared.ends.dialog.Dialog.{Dialog}
use Rattle.client_ends.specs.declared.ends.dialog.Stage.TheVariants as stages
use Rattle.client_ends.specs.declared.ends.line.Line.{Line}
use Rattle.client_ends.specs.ends.Shown.{ShowsLine, EndShowsTalk}
use Rattle.client_ends.specs.declared.response_faults.setup.Ended.{Ended}
use Rattle.client_ends.specs.dialog_requests.Dialogs.{IsDialogs}
use Rattle.client_ends.specs.declared.dialog_calls.heard.Heard.{Heard}
use Rattle.client_ends.specs.declared.dialog_calls.heard.Heard.TheVariants.{Say, Accepted, Ready, Refused}

-- the path of the share, whose host is this project's own, fits its field
abbrev pub CanConnect : List ℕ → Type 0
CanConnect share = length (utf16 (host ++ share)) < 2 ^ 16

abbrev pub IsConnecting : List ℕ → List ℕ → Type 0
IsConnecting share body = (body ≡ body_of (TreeConnect share)) × CanConnect share

-- a TREE_CONNECT to this share
pub record IsTree (m : Message) (id session : ℕ) (share : List ℕ) : Type 0 where
  pub said : IsDialogs m id session
  pub command : m.command ≡ TreeConnect share

-- what a dialog keeps beside its line and its stage, and the session in the making, which an interim response tells
pub record Remains (old new : Dialog) (making : ℕ) : Type 0 where
  pub config : new.config ≡ old.config
  pub bound : new.bound ≡ old.bound
  pub previous : new.previous ≡ old.previous
  pub session : new.session ≡ making

-- the line has these keys, and the nonces of this channel from the first one on
pub record DialogTakes (old : Line) (ended : Ended) (number : ℕ) (new : Line) : Type 0 where
  pub talk : (n : ClientEnd) → EndShowsTalk old n → EndShowsTalk new n
  pub keys : new.keys ≡ ended.keys
  pub encrypts : new.encrypts ≡ ended.encrypts
  pub channel : new.nonces.channel ≡ number
  pub counter : new.nonces.counter ≡ 0

-- a session is accepted on a line that shows n, and its TREE_CONNECT goes out
abbrev pub Readied : Dialog → ClientEnd → Ended → Dialog → Heard → Type 0
Readied d n ended new (Accepted keys chosen frame) =
    (keys ≡ ended.keys) × (chosen ≡ d.chosen)
    × ((m : Message) → IsTree m n.purse.next d.session d.config.share → frame ≡ line_frame n m 1)
    × ShowsLine new.line (sealed_on (spent n 1 ForDialog)) × (new.stage ≡ stages.AskedTree) × Remains d new d.session
Readied d n ended new (Say frame) = ⊥
Readied d n ended new (Ready line session tree) = ⊥
Readied d n ended new (Refused why) = ⊥

-- ---- a frame that doesn't open

-- whether that is for want of memory
abbrev pub IsLacking : SealError → Bool → Type 0
IsLacking seals.Memory lacks = lacks ≡ true
IsLacking seals.NotSealed lacks = lacks ≡ false
IsLacking (seals.BadSize size) lacks = lacks ≡ false
IsLacking (seals.OtherSession session) lacks = lacks ≡ false
IsLacking seals.BadTag lacks = lacks ≡ false
