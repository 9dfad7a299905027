-- What a dialog comes to by what it hears: the first refusal, or its next message, or its end.
use Rattle.std.specs.Prelude.{◌≡◌, ℕ, ◌==◌, true, false, if◌then◌else◌, List, [], Option, Some, None, is_some}
use Rattle.client_values.specs.outcomes.Meaning.{refusal_of}
use Rattle.spec_exchange.specs.Client.{Stage, SaidNegotiate, SaidFirst, SaidSecond, AskedTree, Apart}
use Rattle.spec_exchange.specs.Network.{ForDialog}
use Rattle.spec_exchange.specs.Operations.{Refusal, BadToken, HadStatus}
use Rattle.spec_exchange.specs.State.{Message}
use Rattle.wire_bytes.specs.declared.session_messages.refusal.Refusal.{Refusal as DialogRefusal}
use Rattle.wire_bytes.specs.declared.session_messages.refusal.Refusal.TheVariants as refusals
use Rattle.spec_crypto.specs.sessions.Chain.{value_behind}
use Rattle.spec_crypto.specs.tokens.Tokens.{first_token}
use Rattle.spec_world.specs.Ends.{ClientEnd}
use Rattle.spec_world.specs.Messages.{HeardMessage}
use Rattle.spec_world.specs.Settings.{ClientSettings}
use Rattle.spec_world.specs.Sending.{answer_of, line_frame, or_no_token, sealed_on, setup_frame, spent}
use Rattle.spec_world.specs.Dialog.{accepted_end, bound_end, dialog_fault, dialog_response, status_due, noted_heard, own_final, paid_in}
use Rattle.spec_world.specs.Dialog.{setup_token}
use Rattle.spec_world.specs.World.{noted_sent}
use Rattle.client_ends.specs.declared.ends.config.Bound.{Bound}
use Rattle.client_ends.specs.declared.ends.dialog.Dialog.{Dialog}
use Rattle.client_ends.specs.declared.ends.dialog.Stage.{Stage as DialogStage}
use Rattle.client_ends.specs.declared.ends.dialog.Stage.TheVariants as stages
use Rattle.client_ends.specs.ends.Shown.{ShowsDialog, ShowsLine, EndShowsTalk, settings_of}
use Rattle.client_ends.specs.dialog_requests.Dialogs.{IsDialogs}
use Rattle.client_ends.specs.dialog_calls.Ending.{IsTree, Remains}
use Rattle.client_ends.specs.declared.dialog_calls.heard.Heard.{Heard}
use Rattle.client_ends.specs.declared.dialog_calls.heard.Heard.TheVariants.{Say, Accepted, Ready, Refused}

-- ---- the first refusal

abbrev pub refusal_on : ClientSettings → ClientEnd → Stage → Option HeardMessage → Option Refusal
refusal_on c n s None = Some BadToken
refusal_on c n s (Some x) = if x.header.status == status_due s then dialog_fault c n s x else Some (HadStatus x.header.status)

-- the dialog is refused so, from then on
abbrev pub IsDialogRefused : DialogRefusal → Dialog → Heard → Type 0
IsDialogRefused why new (Refused told) = (told ≡ why) × (new.stage ≡ stages.Refused why)
IsDialogRefused why new (Say frame) = ⊥
IsDialogRefused why new (Accepted keys chosen frame) = ⊥
IsDialogRefused why new (Ready line session tree) = ⊥

abbrev pub RefusesAs : Refusal → Dialog → Heard → Type 0
RefusesAs why new h = (told : DialogRefusal) × (refusal_of told ≡ why) × IsDialogRefused told new h

-- ---- a SESSION_SETUP that goes out

-- the session that it names: that of a binding, or the one in the making
abbrev pub session_in : Option Bound → ℕ → ℕ
session_in None session = session
session_in (Some b) session = b.session

abbrev pub previous_in : Option Bound → ℕ → ℕ
previous_in None previous = previous
previous_in (Some b) previous = 0

-- what goes out of an end, and the end and the dialog behind it
abbrev pub SetupSaid : Dialog → ClientEnd → Stage → ℕ → List ℕ → Dialog → List ℕ → Type 0
SetupSaid d n s session token new frame =
    ((m : Message) → IsDialogs m n.purse.next (session_in d.bound session)
    → frame ≡ setup_frame n (is_some d.bound) (previous_in d.bound d.previous) token m)
    × ShowsDialog new (noted_sent (spent n 1 ForDialog) s frame) × Remains d new session

abbrev pub DialogGoesOn : Dialog → ClientEnd → Stage → ℕ → List ℕ → Dialog → Heard → Type 0
DialogGoesOn d n s session token new (Say frame) = SetupSaid d n s session token new frame
DialogGoesOn d n s session token new (Accepted keys chosen frame) = ⊥
DialogGoesOn d n s session token new (Ready line other tree) = ⊥
DialogGoesOn d n s session token new (Refused why) = ⊥

-- what a message that goes out or comes in leaves alone
pub record DialogStays (old new : Dialog) : Type 0 where
  pub keys : new.line.keys ≡ old.line.keys
  pub encrypts : new.line.encrypts ≡ old.line.encrypts
  pub nonces : new.line.nonces ≡ old.line.nonces
  pub config : new.config ≡ old.config
  pub base : new.base ≡ old.base
  pub challenge : new.challenge ≡ old.challenge
  pub chosen : new.chosen ≡ old.chosen
  pub bound : new.bound ≡ old.bound
  pub previous : new.previous ≡ old.previous
  pub session : new.session ≡ old.session

-- of a dialog that says a SESSION_SETUP: its frame, and the dialog behind it
pub record SaysSetup (d : Dialog) (token : List ℕ) (s : DialogStage) (new : Dialog) (frame : List ℕ) : Type 0 where
  pub said : (n : ClientEnd) (m : Message) → (is_some d.bound ≡ true → n.keys.signing ≡ d.line.keys.signing)
      → IsDialogs m d.line.purse.next (session_in d.bound d.session)
      → frame ≡ setup_frame n (is_some d.bound) (previous_in d.bound d.previous) token m
  pub talk : (n : ClientEnd) → EndShowsTalk d.line n → EndShowsTalk new.line (spent n 1 ForDialog)
  pub chain : new.chain ≡ value_behind d.chain frame
  pub stage : new.stage ≡ s
  pub rest : DialogStays d new

abbrev pub DialogSays : Dialog → List ℕ → DialogStage → Dialog → Heard → Type 0
DialogSays d token s new (Say frame) = SaysSetup d token s new frame
DialogSays d token s new (Accepted keys chosen frame) = ⊥
DialogSays d token s new (Ready line other tree) = ⊥
DialogSays d token s new (Refused why) = ⊥

-- ---- a session that is accepted, and a channel that is bound

abbrev pub DialogAccepts : Dialog → ClientEnd → ClientEnd → Dialog → Heard → Type 0
DialogAccepts d n behind new (Accepted keys chosen frame) =
    (keys ≡ own_final n false d.session) × (chosen ≡ n.chosen)
    × ((m : Message) → IsTree m behind.purse.next d.session d.config.share → frame ≡ line_frame behind m 1)
    × ShowsDialog new (sealed_on (spent behind 1 ForDialog)) × Remains d new d.session
DialogAccepts d n behind new (Say frame) = ⊥
DialogAccepts d n behind new (Ready line session tree) = ⊥
DialogAccepts d n behind new (Refused why) = ⊥

abbrev pub Binds : Dialog → ClientEnd → ClientEnd → Dialog → Heard → Type 0
Binds d n behind new (Accepted keys chosen frame) =
    (keys ≡ own_final n true 0) × (chosen ≡ n.chosen) × (frame ≡ []) × ShowsDialog new behind × Remains d new d.session
Binds d n behind new (Say frame) = ⊥
Binds d n behind new (Ready line session tree) = ⊥
Binds d n behind new (Refused why) = ⊥

abbrev pub DialogReadies : ClientEnd → ℕ → ℕ → Dialog → Heard → Type 0
DialogReadies behind session tree new (Ready line in_session in_tree) =
    ShowsLine line behind × (in_session ≡ session) × (in_tree ≡ tree) × (new.stage ≡ stages.Over)
DialogReadies behind session tree new (Say frame) = ⊥
DialogReadies behind session tree new (Accepted keys chosen frame) = ⊥
DialogReadies behind session tree new (Refused why) = ⊥

-- ---- by the stage of the end

-- what a response comes to that isn't refused; a bound channel's number is told
abbrev pub DialogComes : Stage → Dialog → ClientEnd → HeardMessage → ℕ → Dialog → Heard → Type 0
DialogComes (SaidNegotiate bound) d n x channel new h =
    DialogGoesOn d (noted_heard n (SaidNegotiate bound) x) (SaidFirst bound) d.session first_token new h
DialogComes (SaidFirst bound) d n x channel new h =
    DialogGoesOn d (noted_heard n (SaidFirst bound) x) (SaidSecond bound) x.header.session
    (or_no_token (answer_of (settings_of d.config) n (setup_token x.bytes))) new h
DialogComes (SaidSecond false) d n x channel new h = DialogAccepts d n (accepted_end n x d.session) new h
DialogComes (SaidSecond true) d n x channel new h = Binds d n (bound_end n x channel) new h
DialogComes AskedTree d n x channel new h = DialogReadies (record (paid_in n x.header) { stage = Apart }) d.session x.header.tree new h
DialogComes Apart d n x channel new h = ⊥

abbrev pub ComesBy : Stage → Dialog → ClientEnd → Option HeardMessage → ℕ → Dialog → Heard → Type 0
ComesBy s d n None channel new h = ⊥
ComesBy s d n (Some x) channel new h = DialogComes s d n x channel new h

abbrev pub Turns : Option Refusal → Type 0 → Dialog → Heard → Type 0
Turns None otherwise new h = otherwise
Turns (Some why) otherwise new h = RefusesAs why new h

-- a channel that was bound is ready; of a dialog that binds none there is none
abbrev pub JoinsAs : Option Bound → ClientEnd → Dialog → Heard → Type 0
JoinsAs None n new h = IsDialogRefused refusals.BadToken new h
JoinsAs (Some b) n new h = DialogReadies n b.session b.tree new h

-- of a message that was opened where it had to be
abbrev pub HearsMessage : Stage → Dialog → ClientEnd → Option HeardMessage → ℕ → Dialog → Heard → Type 0
HearsMessage s d n o channel new h =
    Turns (refusal_on (settings_of d.config) n s o) (ComesBy s d n o channel new h) new h

abbrev pub DialogHears : Stage → Dialog → ClientEnd → List ℕ → ℕ → Dialog → Heard → Type 0
DialogHears Apart d n frame channel new h = JoinsAs d.bound n new h
DialogHears s d n frame channel new h = HearsMessage s d n (dialog_response n s frame) channel new h
