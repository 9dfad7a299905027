-- What a dialog finds in a response, before its credits are counted.
use Rattle.std.specs.Prelude.{◌≡◌, ℕ, ◌==◌, Bool, true, false, not, ◌&&◌, if◌then◌else◌, List, Option, Some, None, Result, Ok, Err}
use Rattle.client_values.specs.outcomes.Meaning.{refusal_of}
use Rattle.spec_exchange.specs.Client.{Stage, SaidNegotiate, SaidFirst, SaidSecond, AskedTree}
use Rattle.spec_exchange.specs.Operations.{Refusal, BadChoice, BadToken, BadSignature, HadStatus}
use Rattle.client_ends.specs.declared.ends.config.ClientConfig.{ClientConfig}
use Rattle.client_ends.specs.declared.ends.line.Line.{Line}
use Rattle.client_ends.specs.ends.Shown.{settings_of}
use Rattle.client_ends.specs.declared.response_faults.greeting.Greeted.{Greeted}
use Rattle.client_ends.specs.declared.response_faults.setup.Begun.{Begun}
use Rattle.client_ends.specs.declared.response_faults.setup.Ended.{Ended}
use Rattle.wire_bytes.specs.declared.session_messages.refusal.Refusal.{Refusal as DialogRefusal}
use Rattle.spec_crypto.specs.declared.sessions.material.Keys.{Keys}
use Rattle.spec_crypto.specs.declared.sessions.material.Signer.{Signer}
use Rattle.spec_crypto.specs.sessions.Signing.{verifies}
use Rattle.spec_exchange.specs.Commands.{has_bit}
use Rattle.spec_wire.specs.declared.messages.header.Header.{Header}
use Rattle.spec_world.specs.Ends.{ClientEnd}
use Rattle.spec_world.specs.Messages.{HeardMessage, has_header, header_in}
use Rattle.spec_world.specs.Settings.{ClientSettings}
use Rattle.spec_world.specs.Sending.{answer_of}
use Rattle.spec_world.specs.Dialog.{chosen_told, choices_of, status_due, first_refusal, flags_fit, has_form, has_token}
use Rattle.spec_world.specs.Dialog.{is_dialogs, is_response}
use Rattle.spec_world.specs.Dialog.{is_signed, own_final}
use Rattle.spec_world.specs.Dialog.{response_in, seals_told, setup_token, unless}

-- ---- the first fault

abbrev pub faults : ClientSettings → ClientEnd → Stage → HeardMessage → Option Refusal
faults c n s x =
    first_refusal (unless (has_form n s x) BadToken)
    (first_refusal (choices_of c s x.bytes)
    (first_refusal (unless (has_token c n s x.bytes) BadToken)
    (first_refusal (unless (is_signed n s x.bytes) BadSignature) (unless (flags_fit n s x.bytes) (BadChoice 5)))))

-- no header, or another status than the one that is due
abbrev pub early : ℕ → Option HeardMessage → Option Refusal
early wanted None = Some BadToken
early wanted (Some x) = if x.header.status == wanted then None else Some (HadStatus x.header.status)

abbrev pub response_judged : ClientSettings → ClientEnd → Stage → Option HeardMessage → Option Refusal
response_judged c n s None = Some BadToken
response_judged c n s (Some x) = if x.header.status == status_due s then faults c n s x else Some (HadStatus x.header.status)

-- a message with this header
abbrev pub IsHeaded : List ℕ → Header → Type 0
IsHeaded m h = (has_header m ≡ true) × (header_in m ≡ h)

-- this very header where its status is due, and else the status
abbrev pub IsResponseDue : ℕ → Header → Result Header DialogRefusal → Type 0
IsResponseDue wanted header (Ok h) = (h ≡ header) × (header.status ≡ wanted)
IsResponseDue wanted header (Err why) = (refusal_of why ≡ HadStatus header.status) × (header.status ≡ wanted → ⊥)

abbrev pub DueBy : ℕ → List ℕ → Result Header DialogRefusal → Type 0
DueBy wanted m (Ok h) = (has_header m ≡ true) × (header_in m ≡ h) × ((h.status == wanted) ≡ true)
DueBy wanted m (Err why) = early wanted (response_in (Some m)) ≡ Some (refusal_of why)

-- it is the response to the dialog's request of this command
abbrev pub answers_on : ClientEnd → Header → ℕ → Bool
answers_on n h command = is_response h && ((h.command == command) && is_dialogs (n.awaited h.message))

-- ---- what is found in each response, or its first fault

abbrev pub JudgesGreeting : ClientConfig → ClientEnd → Bool → List ℕ → Result Greeted DialogRefusal → Type 0
JudgesGreeting c n bound m (Ok g) =
    (response_judged (settings_of c) n (SaidNegotiate bound) (response_in (Some m)) ≡ None) × IsHeaded m g.header
    × (chosen_told m ≡ g.chosen)
JudgesGreeting c n bound m (Err why) = response_judged (settings_of c) n (SaidNegotiate bound) (response_in (Some m))
    ≡ Some (refusal_of why)

abbrev pub JudgesInterim : ClientConfig → ClientEnd → Bool → List ℕ → Result Begun DialogRefusal → Type 0
JudgesInterim c n bound m (Ok b) =
    (response_judged (settings_of c) n (SaidFirst bound) (response_in (Some m)) ≡ None) × IsHeaded m b.header
    × (answer_of (settings_of c) n (setup_token m) ≡ Some b.token)
JudgesInterim c n bound m (Err why) = response_judged (settings_of c) n (SaidFirst bound) (response_in (Some m)) ≡ Some (refusal_of why)

abbrev pub JudgesFinal : ClientConfig → ClientEnd → Bool → ℕ → List ℕ → Result Ended DialogRefusal → Type 0
JudgesFinal c n bound session m (Ok e) =
    (response_judged (settings_of c) n (SaidSecond bound) (response_in (Some m)) ≡ None) × IsHeaded m e.header
    × (own_final n bound session ≡ e.keys) × (seals_told m ≡ e.encrypts)
JudgesFinal c n bound session m (Err why) = response_judged (settings_of c) n (SaidSecond bound) (response_in (Some m))
    ≡ Some (refusal_of why)

abbrev pub JudgesTree : ClientConfig → ClientEnd → List ℕ → Result Header DialogRefusal → Type 0
JudgesTree c n m (Ok h) = (response_judged (settings_of c) n AskedTree (response_in (Some m)) ≡ None) × IsHeaded m h
JudgesTree c n m (Err why) = response_judged (settings_of c) n AskedTree (response_in (Some m)) ≡ Some (refusal_of why)

-- the signature of a tree's response, where the line doesn't seal
abbrev pub signs_tree : Line → List ℕ → Bool
signs_tree l m = if l.encrypts then true else verifies l.keys.signing m

abbrev pub SignsTree : Line → Header → List ℕ → Result Header DialogRefusal → Type 0
SignsTree l header m (Ok h) = (signs_tree l m ≡ true) × (h ≡ header)
SignsTree l header m (Err why) = (signs_tree l m ≡ false) × (refusal_of why ≡ BadSignature)

-- ---- a final response's keys and flags

abbrev pub flags_taken : ℕ → ℕ → Bool
flags_taken flags cipher = not (has_bit flags 1) && (not (has_bit flags 2) && not (has_bit flags 4 && (cipher == 0)))

abbrev pub key_fault : Keys → ℕ → List ℕ → Option Refusal
key_fault keys flags m =
    first_refusal (unless (verifies keys.signing m) BadSignature) (unless (flags_taken flags keys.cipher) (BadChoice 5))

abbrev pub IsResponseKey : Keys → Header → ℕ → List ℕ → Result Ended DialogRefusal → Type 0
IsResponseKey keys header flags m (Ok e) =
    (key_fault keys flags m ≡ None) × (e.header ≡ header) × (e.keys ≡ keys) × (e.encrypts ≡ has_bit flags 4)
IsResponseKey keys header flags m (Err why) = key_fault keys flags m ≡ Some (refusal_of why)

-- the session's signature, which a binding's interim response owes
abbrev pub IsSigned : Signer → Header → List ℕ → List ℕ → Result Begun DialogRefusal → Type 0
IsSigned signer header token m (Ok b) = (verifies signer m ≡ true) × (b.header ≡ header) × (b.token ≡ token)
IsSigned signer header token m (Err why) = (verifies signer m ≡ false) × (refusal_of why ≡ BadSignature)

abbrev pub IsFlagged : Keys → Header → ℕ → Result Ended DialogRefusal → Type 0
IsFlagged keys header flags (Ok e) =
    (flags_taken flags keys.cipher ≡ true) × (e.header ≡ header) × (e.keys ≡ keys) × (e.encrypts ≡ has_bit flags 4)
IsFlagged keys header flags (Err why) = (flags_taken flags keys.cipher ≡ false) × (refusal_of why ≡ BadChoice 5)
