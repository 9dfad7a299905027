-- Replies in code before they have their places, and the frames that they are joined in.
use Rattle.std.specs.Prelude.{◌≡◌, ◌≤◌, ℕ, Bool, if◌then◌else◌, ◌/◌, ◌%◌, List}
use Rattle.std.specs.Prelude.{[], ◌∷◌, ◌++◌, length, Option, Some, None}
use Rattle.spec_world.specs.Answering as answering
use Rattle.spec_world.specs.Logon as logon
use Rattle.conn_core.specs.declared.reply_sealing.said.Said.{Said}
use Rattle.conn_core.specs.declared.conn.Progress.{Progress}
use Rattle.conn_core.specs.declared.conn.Progress.TheVariants.{Stays, Refused, Interim, Final}

abbrev pub MovesAs : Progress → answering.SaidReply → Type 0
MovesAs Stays r = r.progress ≡ logon.Stays
MovesAs (Refused signer) r = r.progress ≡ logon.Stays
MovesAs (Interim signer) r = (binding : Bool) × (r.progress ≡ logon.Interim binding)
MovesAs (Final keys channel encrypts) r = (binding : Bool) × (r.progress ≡ logon.Final binding channel encrypts) × (r.keys ≡ keys)

-- keys of a known cipher
abbrev pub AreProgressKeys : Progress → Type 0
AreProgressKeys (Final keys channel encrypts) = keys.cipher ≤ 4
AreProgressKeys _ = Unit {0}

-- a reply in code is the definitions', of a request that stands at its place of the frame
pub record IsReplySaid (s : Said) (r : answering.SaidReply) : Type 0 where
  pub header : r.header ≡ s.header
  pub body : r.body ≡ s.body.now
  pub signer : r.signer ≡ s.signer
  pub progress : MovesAs s.progress r

-- it can be put into a frame: its flags are those of a response, and its body leaves room for what stands around it
abbrev pub CanPut : Said → Type 0
CanPut s = (s.header.flags ≤ 5) × (length s.body.now ≤ 1113984)

abbrev pub CanPutIf : Option Said → Type 0
CanPutIf None = Unit {0}
CanPutIf (Some s) = CanPut s

-- what stands in front of a frame's text: its length, and a transform header where it is sealed
abbrev pub front_size : Bool → ℕ
front_size sealed = if sealed then 56 else 4

-- a frame behind its length (2.1)
abbrev pub framed : List ℕ → List ℕ
framed m = 0 ∷ length m / 65536 % 256 ∷ length m / 256 % 256 ∷ length m % 256 ∷ m

unfoldable pub all_framed : List (List ℕ) → List ℕ
all_framed [] = []
all_framed (m ∷ ms) = framed m ++ all_framed ms
