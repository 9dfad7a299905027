-- The faults of a response to SESSION_SETUP, and the keys behind the final one.
use Rattle.std.proofs.Common.{◌≡◌, ℕ, ◌==◌, Bool, true, false, ◌&&◌, if◌then◌else◌, List, [], Option, Some, None, Result, Ok, Err}
use Rattle.std.proofs.Common.{refl, sym, ap, ◌∙◌}
use Rattle.std.specs.Prelude.{is_none, is_some}
use Rattle.client_ends.specs.declared.response_faults.setup.Begun.{Begun}
use Rattle.client_ends.specs.declared.response_faults.setup.Ended.{Ended}
use Rattle.wire_bytes.specs.declared.session_messages.refusal.Refusal.{Refusal as DialogRefusal}
use Rattle.spec_exchange.specs.Client.{SaidFirst, SaidSecond}
use Rattle.spec_exchange.specs.Operations.{Refusal, BadChoice, BadToken, BadSignature}
use Rattle.spec_crypto.specs.sessions.Chain.{chain}
use Rattle.spec_crypto.specs.sessions.Derivation.{bound_keys, keys_of}
use Rattle.spec_crypto.specs.sessions.Signing.{verifies}
use Rattle.spec_crypto.specs.declared.sessions.material.Keys.{Keys}
use Rattle.spec_crypto.specs.declared.sessions.material.Signer.{Signer}
use Rattle.spec_crypto.specs.tokens.Tokens.{answer_token, is_final}
use Rattle.spec_wire.specs.messages.SessionSetup.{session_setup_response_fault}
use Rattle.spec_wire.specs.declared.messages.header.Header.{Header}
use Rattle.spec_world.specs.Ends.{ClientEnd}
use Rattle.spec_world.specs.Messages.{has_header, header_in}
use Rattle.spec_world.specs.Settings.{ClientSettings}
use Rattle.spec_world.specs.Sending.{answer_of, that_fits}
use Rattle.spec_world.specs.Dialog.{first_refusal, is_dialogs, is_response, own_final, response_in, seals_told, setup_flags}
use Rattle.spec_world.specs.Dialog.{setup_token, unless}
use Rattle.spec_exchange.specs.Commands.{has_bit}
use Rattle.client_ends.specs.declared.ends.config.ClientConfig.{ClientConfig}
use Rattle.client_ends.specs.declared.ends.dialog.Dialog.{Dialog}
use Rattle.client_ends.specs.ends.Shown.{ShowsTalking, settings_of}
use Rattle.client_ends.specs.response_faults.Judging.{IsFlagged, IsResponseKey, IsSigned, JudgesFinal, JudgesInterim, answers_on}
use Rattle.client_ends.specs.response_faults.Judging.{faults, flags_taken, response_judged, key_fault}
use Rattle.client_ends.proofs.response_faults.Forms.{headed, judged_is}

-- ---- the answer to an interim token

pub answer_is : (d : Dialog) (n : ClientEnd) (token : List ℕ) (o : Option (List ℕ)) → ShowsTalking d n
    → o ≡ that_fits (answer_token (record {
      user = d.config.user;
      password = d.config.password;
      domain = [];
      challenge = d.challenge;
      key = d.base;
    }) token) → o ≡ answer_of (settings_of d.config) n token
unfolding answer_of
answer_is d n token o s e =
    e ∙ (λ t. that_fits (answer_token (record {
      user = d.config.user;
      password = d.config.password;
      domain = [];
      challenge = sym s.challenge t;
      key = sym s.base t;
    }) token))

-- ---- the keys behind the final response

bound_by : (d : Dialog) (n : ClientEnd) (b : Bool) (session : ℕ) → ShowsTalking d n → (b ≡ true → n.keys ≡ d.line.keys) → b ≡ true
    → bound_keys d.base d.chain d.line.keys ≡ own_final n b session
bound_by d n true session s k e = λ t. bound_keys (sym s.base t) (sym s.transcript t) (sym (k refl) t)
bound_by d n false session s k e = absurd cc

pub bound_is : (d : Dialog) (n : ClientEnd) (session : ℕ) → ShowsTalking d n → is_some d.bound ≡ true
    → bound_keys d.base d.chain d.line.keys ≡ own_final n (is_some d.bound) session
bound_is d n session s e = bound_by d n (is_some d.bound) session s s.keys e

pub made_is : (d : Dialog) (n : ClientEnd) (b : Bool) (session : ℕ) → ShowsTalking d n → b ≡ false
    → keys_of d.base d.chain d.chosen.cipher d.chosen.signing session ≡ own_final n b session
made_is d n false session s e =
    λ t. keys_of (sym s.base t) (sym s.transcript t) (sym s.chosen t).cipher (sym s.chosen t).signing session
made_is d n true session s e = absurd cc

-- whatever the session, its signature and cipher are the same
same_session : (n : ClientEnd) (b : Bool) (session : ℕ) (flags : ℕ) (m : List ℕ)
    → key_fault (own_final n b session) flags m ≡ key_fault (own_final n b 0) flags m
same_session n true session flags m = refl
same_session n false session flags m = refl

-- ---- the form

by_front : (p q r body : Bool) (later : Option Refusal)
    → first_refusal (unless (p && (q && (r && body))) BadToken) later
    ≡ (if p && (q && r) then first_refusal (unless body BadToken) later else Some BadToken)
by_front true true true body later = refl
by_front true true false body later = refl
by_front true false r body later = refl
by_front false q r body later = refl

no_more : (o : Option Refusal) → first_refusal o None ≡ o
no_more None = refl
no_more (Some why) = refl

-- ---- the interim response

abbrev interim_later : ClientSettings → ClientEnd → Bool → List ℕ → Option Refusal
interim_later c n bound m =
    first_refusal (unless (is_some (answer_of c n (setup_token m))) BadToken)
    (first_refusal (unless (if bound then verifies n.keys.signing m else true) BadSignature) None)

interim_faults : (c : ClientSettings) (n : ClientEnd) (bound : Bool) (h : Header) (m : List ℕ)
    → faults c n (SaidFirst bound) (headed h m)
    ≡ (if answers_on n h 1 then first_refusal (unless (is_none (session_setup_response_fault m)) BadToken) (interim_later c n bound m)
    else Some BadToken)
interim_faults c n bound h m =
    by_front (is_response h) (h.command == 1) (is_dialogs (n.awaited h.message)) (is_none (session_setup_response_fault m))
    (interim_later c n bound m)

interim_is : (c : ClientSettings) (n : ClientEnd) (bound : Bool) (h : Header) (m : List ℕ) → has_header m ≡ true → header_in m ≡ h
    → (h.status == 0xc000_0016) ≡ true
    → response_judged c n (SaidFirst bound) (response_in (Some m))
    ≡ (if answers_on n h 1 then first_refusal (unless (is_none (session_setup_response_fault m)) BadToken) (interim_later c n bound m)
    else Some BadToken)
interim_is c n bound h m has is status =
    judged_is c n (SaidFirst bound) m h has is status ∙ interim_faults c n bound h m

pub interim_other : (c : ClientSettings) (n : ClientEnd) (bound : Bool) (h : Header) (m : List ℕ) → has_header m ≡ true
    → header_in m ≡ h → (h.status == 0xc000_0016) ≡ true → answers_on n h 1 ≡ false
    → response_judged c n (SaidFirst bound) (response_in (Some m)) ≡ Some BadToken
interim_other c n bound h m has is status b =
    interim_is c n bound h m has is status
    ∙ ap (λ (a : Bool). if a then first_refusal (unless (is_none (session_setup_response_fault m)) BadToken) (interim_later c n bound m)
    else Some BadToken) b

pub interim_unread : (c : ClientSettings) (n : ClientEnd) (bound : Bool) (h : Header) (m : List ℕ) → has_header m ≡ true
    → header_in m ≡ h → (h.status == 0xc000_0016) ≡ true → answers_on n h 1 ≡ true → is_none (session_setup_response_fault m) ≡ false
    → response_judged c n (SaidFirst bound) (response_in (Some m)) ≡ Some BadToken
interim_unread c n bound h m has is status b f =
    interim_is c n bound h m has is status
    ∙ (λ t. if b t then first_refusal (unless (f t) BadToken) (interim_later c n bound m) else Some BadToken)

pub interim_bad : (c : ClientSettings) (n : ClientEnd) (bound : Bool) (h : Header) (m : List ℕ) → has_header m ≡ true
    → header_in m ≡ h → (h.status == 0xc000_0016) ≡ true → answers_on n h 1 ≡ true → is_none (session_setup_response_fault m) ≡ true
    → answer_of c n (setup_token m) ≡ None → response_judged c n (SaidFirst bound) (response_in (Some m)) ≡ Some BadToken
interim_bad c n bound h m has is status b f a =
    interim_is c n bound h m has is status
    ∙ (λ t. if b t then first_refusal (unless (f t) BadToken) (first_refusal (unless (is_some (a t)) BadToken)
    (first_refusal (unless (if bound then verifies n.keys.signing m else true) BadSignature) None)) else Some BadToken)

-- its signature, where it owes one
pub interim_signed : (c : ClientSettings) (n : ClientEnd) (bound signs : Bool) (h : Header) (m token : List ℕ) → has_header m ≡ true
    → header_in m ≡ h → (h.status == 0xc000_0016) ≡ true → answers_on n h 1 ≡ true → is_none (session_setup_response_fault m) ≡ true
    → answer_of c n (setup_token m) ≡ Some token → (if bound then verifies n.keys.signing m else true) ≡ signs
    → response_judged c n (SaidFirst bound) (response_in (Some m)) ≡ unless signs BadSignature
interim_signed c n bound signs h m token has is status b f a v =
    interim_is c n bound h m has is status
    ∙ ((λ t. if b t then first_refusal (unless (f t) BadToken) (first_refusal (unless (is_some (a t)) BadToken)
    (first_refusal (unless (v t) BadSignature) None)) else Some BadToken)
    ∙ no_more (unless signs BadSignature))

-- ---- the final response

abbrev final_later : ClientEnd → Bool → List ℕ → Option Refusal
final_later n bound m =
    first_refusal (unless (is_final n.base (setup_token m)) BadToken) (key_fault (own_final n bound 0) (setup_flags m) m)

final_faults : (c : ClientSettings) (n : ClientEnd) (bound : Bool) (h : Header) (m : List ℕ)
    → faults c n (SaidSecond bound) (headed h m)
    ≡ (if answers_on n h 1 then first_refusal (unless (is_none (session_setup_response_fault m)) BadToken) (final_later n bound m)
    else Some BadToken)
final_faults c n bound h m =
    by_front (is_response h) (h.command == 1) (is_dialogs (n.awaited h.message)) (is_none (session_setup_response_fault m))
    (final_later n bound m)

final_is : (c : ClientSettings) (n : ClientEnd) (bound : Bool) (h : Header) (m : List ℕ) → has_header m ≡ true → header_in m ≡ h
    → (h.status == 0) ≡ true
    → response_judged c n (SaidSecond bound) (response_in (Some m))
    ≡ (if answers_on n h 1 then first_refusal (unless (is_none (session_setup_response_fault m)) BadToken) (final_later n bound m)
    else Some BadToken)
final_is c n bound h m has is status = judged_is c n (SaidSecond bound) m h has is status ∙ final_faults c n bound h m

pub final_other : (c : ClientSettings) (n : ClientEnd) (bound : Bool) (h : Header) (m : List ℕ) → has_header m ≡ true
    → header_in m ≡ h → (h.status == 0) ≡ true → answers_on n h 1 ≡ false
    → response_judged c n (SaidSecond bound) (response_in (Some m)) ≡ Some BadToken
final_other c n bound h m has is status b =
    final_is c n bound h m has is status
    ∙ ap (λ (a : Bool). if a then first_refusal (unless (is_none (session_setup_response_fault m)) BadToken) (final_later n bound m)
    else Some BadToken) b

pub final_unread : (c : ClientSettings) (n : ClientEnd) (bound : Bool) (h : Header) (m : List ℕ) → has_header m ≡ true
    → header_in m ≡ h → (h.status == 0) ≡ true → answers_on n h 1 ≡ true → is_none (session_setup_response_fault m) ≡ false
    → response_judged c n (SaidSecond bound) (response_in (Some m)) ≡ Some BadToken
final_unread c n bound h m has is status b f =
    final_is c n bound h m has is status
    ∙ (λ t. if b t then first_refusal (unless (f t) BadToken) (final_later n bound m) else Some BadToken)

pub final_bad : (c : ClientSettings) (n : ClientEnd) (bound : Bool) (h : Header) (m : List ℕ) → has_header m ≡ true
    → header_in m ≡ h → (h.status == 0) ≡ true → answers_on n h 1 ≡ true → is_none (session_setup_response_fault m) ≡ true
    → is_final n.base (setup_token m) ≡ false → response_judged c n (SaidSecond bound) (response_in (Some m)) ≡ Some BadToken
final_bad c n bound h m has is status b f a =
    final_is c n bound h m has is status
    ∙ (λ t. if b t then first_refusal (unless (f t) BadToken) (first_refusal (unless (a t) BadToken)
    (key_fault (own_final n bound 0) (setup_flags m) m)) else Some BadToken)

pub final_key : (c : ClientSettings) (n : ClientEnd) (bound : Bool) (session flags : ℕ) (keys : Keys) (h : Header) (m : List ℕ)
    → has_header m ≡ true → header_in m ≡ h → (h.status == 0) ≡ true → answers_on n h 1 ≡ true
    → is_none (session_setup_response_fault m) ≡ true → is_final n.base (setup_token m) ≡ true
    → keys ≡ own_final n bound session → flags ≡ setup_flags m
    → response_judged c n (SaidSecond bound) (response_in (Some m)) ≡ key_fault keys flags m
final_key c n bound session flags keys h m has is status b f a k g =
    final_is c n bound h m has is status
    ∙ ((λ t. if b t then first_refusal (unless (f t) BadToken) (first_refusal (unless (a t) BadToken)
    (key_fault (own_final n bound 0) (setup_flags m) m)) else Some BadToken)
    ∙ (sym (same_session n bound session (setup_flags m) m) ∙ (λ t. key_fault (sym k t) (sym g t) m)))

pub seals_as : (m : List ℕ) (flags : ℕ) → flags ≡ setup_flags m → seals_told m ≡ has_bit flags 4
unfolding seals_told
seals_as m flags g = ap (λ (k : ℕ). has_bit k 4) (sym g)

pub final_judged : (config : ClientConfig) (n : ClientEnd) (bound : Bool) (session flags : ℕ) (keys : Keys) (h : Header) (m : List ℕ)
    (r : Result Ended DialogRefusal) → has_header m ≡ true → header_in m ≡ h → (h.status == 0) ≡ true → answers_on n h 1 ≡ true
    → is_none (session_setup_response_fault m) ≡ true → is_final n.base (setup_token m) ≡ true → keys ≡ own_final n bound session
    → flags ≡ setup_flags m → IsResponseKey keys h flags m r → JudgesFinal config n bound session m r
final_judged config n bound session flags keys h m (Ok e) has is status b f a k g key = (
  final_key (settings_of config) n bound session flags keys h m has is status b f a k g ∙ key.0,
  (has, is ∙ sym key.1),
  sym k ∙ sym key.2,
  seals_as m flags g ∙ sym key.3,
)
final_judged config n bound session flags keys h m (Err why) has is status b f a k g key =
    final_key (settings_of config) n bound session flags keys h m has is status b f a k g ∙ key

-- ---- the signature of an interim response

pub signed_judged : (config : ClientConfig) (n : ClientEnd) (bound : Bool) (signer : Signer) (h : Header) (m token : List ℕ)
    (r : Result Begun DialogRefusal) → has_header m ≡ true → header_in m ≡ h → (h.status == 0xc000_0016) ≡ true
    → answers_on n h 1 ≡ true → is_none (session_setup_response_fault m) ≡ true
    → answer_of (settings_of config) n (setup_token m) ≡ Some token → bound ≡ true → n.keys.signing ≡ signer
    → IsSigned signer h token m r → JudgesInterim config n bound m r
signed_judged config n bound signer h m token (Ok b) has is status fits f a binds k v = (
  interim_signed (settings_of config) n bound true h m token has is status fits f a
      ((λ t. if binds t then verifies (k t) m else true) ∙ v.0),
  (has, is ∙ sym v.1),
  a ∙ ap (λ (x : List ℕ). Some x) (sym v.2),
)
signed_judged config n bound signer h m token (Err why) has is status fits f a binds k v =
    interim_signed (settings_of config) n bound false h m token has is status fits f a
    ((λ t. if binds t then verifies (k t) m else true) ∙ v.0)
    ∙ ap (λ (w : Refusal). Some w) (sym v.1)

pub unsigned_judged : (config : ClientConfig) (n : ClientEnd) (bound : Bool) (h : Header) (m token : List ℕ) → has_header m ≡ true
    → header_in m ≡ h → (h.status == 0xc000_0016) ≡ true → answers_on n h 1 ≡ true → is_none (session_setup_response_fault m) ≡ true
    → answer_of (settings_of config) n (setup_token m) ≡ Some token → bound ≡ false
    → JudgesInterim config n bound m (Ok (record { header = h; token = token }))
unsigned_judged config n bound h m token has is status fits f a binds = (
  interim_signed (settings_of config) n bound true h m token has is status fits f a
      (ap (λ (b : Bool). if b then verifies n.keys.signing m else true) binds),
  (has, is),
  a,
)

-- ---- keys and flags

pub flagged_key : (keys : Keys) (h : Header) (flags : ℕ) (m : List ℕ) (r : Result Ended DialogRefusal) → verifies keys.signing m ≡ true
    → IsFlagged keys h flags r → IsResponseKey keys h flags m r
flagged_key keys h flags m (Ok e) v f = (
  (λ t. first_refusal (unless (v t) BadSignature) (unless (f.0 t) (BadChoice 5))),
  f.1,
  f.2,
  f.3,
)
flagged_key keys h flags m (Err why) v f =
    (λ t. first_refusal (unless (v t) BadSignature) (unless (f.0 t) (BadChoice 5))) ∙ ap (λ (w : Refusal). Some w) (sym f.1)

pub unsigned_key : (keys : Keys) (flags : ℕ) (m : List ℕ) → verifies keys.signing m ≡ false → key_fault keys flags m ≡ Some BadSignature
unsigned_key keys flags m v =
    ap (λ (b : Bool). first_refusal (unless b BadSignature) (unless (flags_taken flags keys.cipher) (BadChoice 5))) v
