-- The faults of a response to NEGOTIATE.
use Rattle.std.proofs.Common.{◌≡◌, ℕ, ◌==◌, Bool, true, false, ◌&&◌, if◌then◌else◌, List, Option, Some, None, refl, ap, ◌∙◌}
use Rattle.spec_exchange.specs.Client.{SaidNegotiate}
use Rattle.spec_exchange.specs.Operations.{Refusal, BadToken}
use Rattle.spec_wire.specs.messages.Negotiate.{negotiate_response_in}
use Rattle.spec_wire.specs.declared.messages.header.Header.{Header}
use Rattle.spec_world.specs.Ends.{ClientEnd}
use Rattle.spec_world.specs.Messages.{has_header, header_in}
use Rattle.spec_world.specs.Settings.{ClientSettings}
use Rattle.spec_world.specs.Dialog.{choice_fault, chosen_told, first_refusal, has_contexts, is_dialogs, is_hint, is_response}
use Rattle.spec_world.specs.Dialog.{response_in, unless}
use Rattle.client_ends.specs.dialog_responses.Greeting.{greeting_refusal}
use Rattle.wire_bytes.specs.declared.session_messages.refusal.Refusal.{Refusal as DialogRefusal}
use Rattle.client_values.specs.outcomes.Meaning.{refusal_of}
use Rattle.spec_crypto.specs.declared.sessions.choice.Chosen.{Chosen}
use Rattle.client_ends.specs.response_faults.Judging.{IsHeaded, answers_on, faults, response_judged}
use Rattle.client_ends.proofs.response_faults.Forms.{headed, judged_is}

no_more : (o : Option Refusal) → first_refusal o None ≡ o
no_more None = refl
no_more (Some why) = refl

rest : (choices : Option Refusal) (hint : Bool)
    → first_refusal choices (first_refusal (unless hint BadToken) None) ≡ first_refusal choices (unless hint BadToken)
rest choices hint = ap (first_refusal choices) (no_more (unless hint BadToken))

by_front : (p q r contexts hint : Bool) (choices : Option Refusal)
    → first_refusal (unless (p && (q && (r && contexts))) BadToken) (first_refusal choices (first_refusal (unless hint BadToken) None))
    ≡ (if p && (q && r) then first_refusal (unless contexts BadToken) (first_refusal choices (unless hint BadToken)) else Some BadToken)
by_front true true true contexts hint choices = ap (first_refusal (unless contexts BadToken)) (rest choices hint)
by_front true true false contexts hint choices = refl
by_front true false r contexts hint choices = refl
by_front false q r contexts hint choices = refl

faults_are : (c : ClientSettings) (n : ClientEnd) (bound : Bool) (h : Header) (m : List ℕ)
    → faults c n (SaidNegotiate bound) (headed h m) ≡ (if answers_on n h 0 then greeting_refusal c m else Some BadToken)
faults_are c n bound h m =
    by_front (is_response h) (h.command == 0) (is_dialogs (n.awaited h.message)) (has_contexts m)
    (is_hint (negotiate_response_in m).security) (choice_fault c m)

pub other_response : (c : ClientSettings) (n : ClientEnd) (bound : Bool) (h : Header) (m : List ℕ) → has_header m ≡ true
    → header_in m ≡ h → (h.status == 0) ≡ true → answers_on n h 0 ≡ false
    → response_judged c n (SaidNegotiate bound) (response_in (Some m)) ≡ Some BadToken
other_response c n bound h m has is status b =
    judged_is c n (SaidNegotiate bound) m h has is status
    ∙ (faults_are c n bound h m ∙ ap (λ (a : Bool). if a then greeting_refusal c m else Some BadToken) b)

pub greeting_judged : (c : ClientSettings) (n : ClientEnd) (bound : Bool) (h : Header) (m : List ℕ) (o : Option Refusal)
    → has_header m ≡ true → header_in m ≡ h → (h.status == 0) ≡ true → answers_on n h 0 ≡ true → greeting_refusal c m ≡ o
    → response_judged c n (SaidNegotiate bound) (response_in (Some m)) ≡ o
greeting_judged c n bound h m o has is status b e =
    judged_is c n (SaidNegotiate bound) m h has is status
    ∙ (faults_are c n bound h m ∙ (ap (λ (a : Bool). if a then greeting_refusal c m else Some BadToken) b ∙ e))

pub found : (c : ClientSettings) (n : ClientEnd) (bound : Bool) (h : Header) (m : List ℕ) (chosen : Chosen) → has_header m ≡ true
    → header_in m ≡ h → (h.status == 0) ≡ true → answers_on n h 0 ≡ true → (greeting_refusal c m ≡ None) × (chosen_told m ≡ chosen)
    → (response_judged c n (SaidNegotiate bound) (response_in (Some m)) ≡ None) × IsHeaded m h × (chosen_told m ≡ chosen)
found c n bound h m chosen has is status b told = (greeting_judged c n bound h m None has is status b told.0, (has, is), told.1)

pub refused : (c : ClientSettings) (n : ClientEnd) (bound : Bool) (h : Header) (m : List ℕ) (why : DialogRefusal) → has_header m ≡ true
    → header_in m ≡ h → (h.status == 0) ≡ true → answers_on n h 0 ≡ true → greeting_refusal c m ≡ Some (refusal_of why)
    → response_judged c n (SaidNegotiate bound) (response_in (Some m)) ≡ Some (refusal_of why)
refused c n bound h m why has is status b told = greeting_judged c n bound h m (Some (refusal_of why)) has is status b told
