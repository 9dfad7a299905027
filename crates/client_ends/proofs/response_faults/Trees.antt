-- The faults of a response to TREE_CONNECT.
use Rattle.std.proofs.Common.{◌≡◌, ℕ, ◌==◌, Bool, true, false, ◌&&◌, if◌then◌else◌, List, Some, None, Result, Ok, Err}
use Rattle.std.proofs.Common.{refl, sym, ap, ◌∙◌}
use Rattle.std.specs.Prelude.{is_none}
use Rattle.spec_exchange.specs.Client.{AskedTree}
use Rattle.spec_exchange.specs.Operations.{Refusal, BadToken, BadSignature}
use Rattle.spec_crypto.specs.sessions.Signing.{verifies}
use Rattle.spec_wire.specs.messages.TreeConnect.{tree_connect_response_fault}
use Rattle.spec_wire.specs.declared.messages.header.Header.{Header}
use Rattle.spec_world.specs.Ends.{ClientEnd}
use Rattle.spec_world.specs.Messages.{has_header, header_in}
use Rattle.spec_world.specs.Settings.{ClientSettings}
use Rattle.spec_world.specs.Dialog.{first_refusal, is_dialogs, is_response, response_in, unless}
use Rattle.client_ends.specs.response_faults.Judging.{JudgesTree, SignsTree, answers_on, response_judged, signs_tree}
use Rattle.client_ends.specs.declared.ends.config.ClientConfig.{ClientConfig}
use Rattle.client_ends.specs.declared.ends.line.Line.{Line}
use Rattle.client_ends.specs.ends.Shown.{ShowsSeals, settings_of}
use Rattle.wire_bytes.specs.declared.session_messages.refusal.Refusal.{Refusal as DialogRefusal}
use Rattle.client_ends.proofs.response_faults.Forms.{judged_is}

by_front : (p q r body signed : Bool)
    → first_refusal (unless (p && (q && (r && body))) BadToken) (first_refusal (unless signed BadSignature) None)
    ≡ (if (p && (q && r)) && body then unless signed BadSignature else Some BadToken)
by_front true true true true true = refl
by_front true true true true false = refl
by_front true true true false signed = refl
by_front true true false body signed = refl
by_front true false r body signed = refl
by_front false q r body signed = refl

pub tree_judged : (c : ClientSettings) (n : ClientEnd) (b f v : Bool) (h : Header) (m : List ℕ) → has_header m ≡ true → header_in m ≡ h
    → (h.status == 0) ≡ true → answers_on n h 3 ≡ b → is_none (tree_connect_response_fault m) ≡ f
    → (if n.encrypts then true else verifies n.keys.signing m) ≡ v
    → response_judged c n AskedTree (response_in (Some m)) ≡ (if b && f then unless v BadSignature else Some BadToken)
tree_judged c n b f v h m has is status eb ef ev =
    judged_is c n AskedTree m h has is status
    ∙ (by_front (is_response h) (h.command == 3) (is_dialogs (n.awaited h.message)) (is_none (tree_connect_response_fault m))
    (if n.encrypts then true else verifies n.keys.signing m)
    ∙ (λ t. if eb t && ef t then unless (ev t) BadSignature else Some BadToken))

-- its signature, as the line looks at it
signs_as : (l : Line) (n : ClientEnd) (m : List ℕ) → ShowsSeals l n
    → (if n.encrypts then true else verifies n.keys.signing m) ≡ signs_tree l m
signs_as l n m s = λ t. if s.encrypts t then true else verifies (s.keys t).signing m

pub tree_other : (c : ClientConfig) (n : ClientEnd) (h : Header) (m : List ℕ) → has_header m ≡ true → header_in m ≡ h
    → (h.status == 0) ≡ true → answers_on n h 3 ≡ false → response_judged (settings_of c) n AskedTree (response_in (Some m)) ≡ Some BadToken
tree_other c n h m has is status b =
    tree_judged (settings_of c) n false (is_none (tree_connect_response_fault m)) (if n.encrypts then true else verifies n.keys.signing m)
    h m has is status b refl refl

pub tree_unread : (c : ClientConfig) (n : ClientEnd) (h : Header) (m : List ℕ) → has_header m ≡ true → header_in m ≡ h
    → (h.status == 0) ≡ true → answers_on n h 3 ≡ true → is_none (tree_connect_response_fault m) ≡ false
    → response_judged (settings_of c) n AskedTree (response_in (Some m)) ≡ Some BadToken
tree_unread c n h m has is status b f =
    tree_judged (settings_of c) n true false (if n.encrypts then true else verifies n.keys.signing m) h m has is status b f refl

pub tree_signed : (c : ClientConfig) (l : Line) (n : ClientEnd) (h : Header) (m : List ℕ) (r : Result Header DialogRefusal)
    → has_header m ≡ true → header_in m ≡ h → (h.status == 0) ≡ true → answers_on n h 3 ≡ true
    → is_none (tree_connect_response_fault m) ≡ true → ShowsSeals l n → SignsTree l h m r → JudgesTree c n m r
tree_signed c l n h m (Ok k) has is status b f s v = (
  tree_judged (settings_of c) n true true true h m has is status b f (signs_as l n m s ∙ v.0),
  (has, is ∙ sym v.1),
)
tree_signed c l n h m (Err why) has is status b f s v =
    tree_judged (settings_of c) n true true false h m has is status b f (signs_as l n m s ∙ v.0)
    ∙ ap (λ (w : Refusal). Some w) (sym v.1)
