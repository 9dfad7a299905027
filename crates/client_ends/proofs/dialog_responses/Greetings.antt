-- A response to NEGOTIATE that reads, and what it comes to.
use Rattle.std.proofs.Common.{◌≡◌, ℕ, Bool, true, false, ◌&&◌, List, length, Option, Some, None}
use Rattle.std.proofs.Common.{IfOk, Result, Ok, Err, refl, sym, ap, subst, ◌∙◌}
use Rattle.std.specs.Prelude.{is_none}
use Rattle.spec_exchange.specs.Operations.{Refusal, BadToken}
use Rattle.wire_bytes.specs.declared.session_messages.refusal.Refusal.{Refusal as DialogRefusal}
use Rattle.spec_crypto.specs.declared.sessions.choice.Chosen.{Chosen}
use Rattle.spec_wire.specs.messages.Negotiate.{NegotiateResponseValue, negotiate_response_in, negotiate_response_fault}
use Rattle.spec_wire.specs.messages.Contexts.{contexts_in}
use Rattle.spec_wire.specs.messages.Offer.{OfferValue, first_of, ids_in, offer_fault, offer_in}
use Rattle.spec_wire.specs.declared.messages.refusal.CtxError.{CtxError}
use Rattle.spec_world.specs.Settings.{ClientSettings}
use Rattle.spec_world.specs.Dialog.{has_contexts, choice_fault, chosen_told, ciphers_told, hashes_told, signings_told}
use Rattle.spec_world.specs.Dialog.{first_refusal, is_hint, unless}
use Rattle.client_ends.specs.dialog_responses.Greeting.{Greets, GreetingHints, choice_by, chosen_by, greeting_refusal}

pub no_fault : {E : Type 0} (o : Option E) → o ≡ None → is_none o ≡ true
no_fault None e = refl
no_fault (Some x) e = absurd cc

pub some_fault : {E : Type 0} (o : Option E) (x : E) → o ≡ Some x → is_none o ≡ false
some_fault None x e = absurd cc
some_fault (Some y) x e = refl

-- ---- the parts of a value that stands in a message

abbrev fault_of : NegotiateResponseValue → Option CtxError
fault_of v = offer_fault v.contexts v.negotiate_context_count

abbrev told_of : NegotiateResponseValue → OfferValue
told_of v = offer_in v.contexts v.negotiate_context_count

abbrev hashes_of : NegotiateResponseValue → List ℕ
hashes_of v = ids_in (first_of 1 (contexts_in v.contexts 0 v.negotiate_context_count))

both : (a b : Bool) → a ≡ true → b ≡ true → (a && b) ≡ true
both true b e f = f
both false b e f = e

not_second : (a b : Bool) → b ≡ false → (a && b) ≡ false
not_second true b e = e
not_second false b e = refl

reads : (m : List ℕ) (v : NegotiateResponseValue) → is_none (negotiate_response_fault m) ≡ true → v ≡ negotiate_response_in m
    → fault_of v ≡ None → has_contexts m ≡ true
unfolding has_contexts
reads m v whole e fits =
    both (is_none (negotiate_response_fault m)) (is_none (fault_of (negotiate_response_in m))) whole
    (no_fault (fault_of (negotiate_response_in m)) (subst (λ (w : NegotiateResponseValue). fault_of w ≡ None) e fits))

breaks : (m : List ℕ) (v : NegotiateResponseValue) (why : CtxError) → v ≡ negotiate_response_in m → fault_of v ≡ Some why
    → has_contexts m ≡ false
unfolding has_contexts
breaks m v why e fault =
    not_second (is_none (negotiate_response_fault m)) (is_none (fault_of (negotiate_response_in m)))
    (some_fault (fault_of (negotiate_response_in m)) why
    (subst (λ (w : NegotiateResponseValue). fault_of w ≡ Some why) e fault))

chosen_as : (c : ClientSettings) (m : List ℕ) → choice_fault c m
    ≡ choice_by c (negotiate_response_in m).dialect_revision (told_of (negotiate_response_in m)).sha512
    (length (hashes_of (negotiate_response_in m))) (told_of (negotiate_response_in m)).ciphers (told_of (negotiate_response_in m)).signings
unfolding choice_fault hashes_told ciphers_told signings_told
chosen_as c m = refl

-- what a value comes to is what is due of the message
due_is : (c : ClientSettings) (m : List ℕ) (v : NegotiateResponseValue) (told : OfferValue) (hashes : ℕ)
    → v ≡ negotiate_response_in m → told ≡ told_of v → hashes ≡ length (hashes_of v)
    → choice_by c v.dialect_revision told.sha512 hashes told.ciphers told.signings ≡ choice_fault c m
due_is c m v told hashes e t n =
    ap (λ (k : ℕ). choice_by c v.dialect_revision told.sha512 k told.ciphers told.signings) n
    ∙ (ap (λ (o : OfferValue). choice_by c v.dialect_revision o.sha512 (length (hashes_of v)) o.ciphers o.signings) t
    ∙ (ap (λ (w : NegotiateResponseValue). choice_by c w.dialect_revision (told_of w).sha512 (length (hashes_of w)) (told_of w).ciphers
    (told_of w).signings) e
    ∙ sym (chosen_as c m)))

-- ---- the first fault

at_form : (c : ClientSettings) (m : List ℕ) → has_contexts m ≡ false → greeting_refusal c m ≡ Some BadToken
at_form c m e =
    ap (λ (b : Bool). first_refusal (unless b BadToken)
    (first_refusal (choice_fault c m) (unless (is_hint (negotiate_response_in m).security) BadToken))) e

behind_form : (c : ClientSettings) (m : List ℕ) (o : Option Refusal) → has_contexts m ≡ true → choice_fault c m ≡ o
    → greeting_refusal c m ≡ first_refusal o (unless (is_hint (negotiate_response_in m).security) BadToken)
behind_form c m o e f =
    ap (λ (b : Bool). first_refusal (unless b BadToken)
    (first_refusal (choice_fault c m) (unless (is_hint (negotiate_response_in m).security) BadToken))) e
    ∙ ap (λ (x : Option Refusal). first_refusal x (unless (is_hint (negotiate_response_in m).security) BadToken)) f

hint_is : (m : List ℕ) (v : NegotiateResponseValue) → v ≡ negotiate_response_in m → is_hint v.security
    ≡ is_hint (negotiate_response_in m).security
hint_is m v e = ap (λ (w : NegotiateResponseValue). is_hint w.security) e

-- a body that doesn't read
pub unreadable : (c : ClientSettings) (m : List ℕ) → is_none (negotiate_response_fault m) ≡ false → greeting_refusal c m ≡ Some BadToken
unfolding has_contexts
unreadable c m e = at_form c m (not_first (is_none (negotiate_response_fault m)) (is_none (fault_of (negotiate_response_in m))) e)
  where
    not_first : (a b : Bool) → a ≡ false → (a && b) ≡ false
    not_first true b e = absurd cc
    not_first false b e = refl

-- contexts that don't
pub unread : (c : ClientSettings) (m : List ℕ) (v : NegotiateResponseValue) (why : CtxError) → v ≡ negotiate_response_in m
    → offer_fault v.contexts v.negotiate_context_count ≡ Some why → greeting_refusal c m ≡ Some BadToken
unread c m v why e fault = at_form c m (breaks m v why e fault)

-- a choice that wasn't offered
pub chosen_else : (c : ClientSettings) (m : List ℕ) (v : NegotiateResponseValue) (told : OfferValue) (hashes : ℕ) (why : Refusal)
    → is_none (negotiate_response_fault m) ≡ true → v ≡ negotiate_response_in m
    → offer_fault v.contexts v.negotiate_context_count ≡ None → told ≡ offer_in v.contexts v.negotiate_context_count
    → hashes ≡ length (ids_in (first_of 1 (contexts_in v.contexts 0 v.negotiate_context_count)))
    → choice_by c v.dialect_revision told.sha512 hashes told.ciphers told.signings ≡ Some why → greeting_refusal c m ≡ Some why
chosen_else c m v told hashes why whole e fits t n f =
    behind_form c m (Some why) (reads m v whole e fits) (sym (due_is c m v told hashes e t n) ∙ f)

-- a token that is no hint
pub no_hint : (c : ClientSettings) (m : List ℕ) (v : NegotiateResponseValue) (told : OfferValue) (hashes : ℕ)
    → is_none (negotiate_response_fault m) ≡ true → v ≡ negotiate_response_in m
    → offer_fault v.contexts v.negotiate_context_count ≡ None → told ≡ offer_in v.contexts v.negotiate_context_count
    → hashes ≡ length (ids_in (first_of 1 (contexts_in v.contexts 0 v.negotiate_context_count)))
    → choice_by c v.dialect_revision told.sha512 hashes told.ciphers told.signings ≡ None → is_hint v.security ≡ false
    → greeting_refusal c m ≡ Some BadToken
no_hint c m v told hashes whole e fits t n f h =
    behind_form c m None (reads m v whole e fits) (sym (due_is c m v told hashes e t n) ∙ f)
    ∙ ap (λ (b : Bool). unless b BadToken) (sym (hint_is m v e) ∙ h)

-- or none of them
pub greets : (c : ClientSettings) (m : List ℕ) (v : NegotiateResponseValue) (told : OfferValue) (hashes : ℕ) (chosen : Chosen)
    → is_none (negotiate_response_fault m) ≡ true → v ≡ negotiate_response_in m
    → offer_fault v.contexts v.negotiate_context_count ≡ None → told ≡ offer_in v.contexts v.negotiate_context_count
    → hashes ≡ length (ids_in (first_of 1 (contexts_in v.contexts 0 v.negotiate_context_count)))
    → choice_by c v.dialect_revision told.sha512 hashes told.ciphers told.signings ≡ None → is_hint v.security ≡ true
    → chosen ≡ chosen_by told.ciphers told.signings
    → (greeting_refusal c m ≡ None) × (chosen_told m ≡ chosen)
unfolding chosen_told ciphers_told signings_told
greets c m v told hashes chosen whole e fits t n f h is = (
  behind_form c m None (reads m v whole e fits) (sym (due_is c m v told hashes e t n) ∙ f)
      ∙ ap (λ (b : Bool). unless b BadToken) (sym (hint_is m v e) ∙ h),
  sym (is ∙ (ap (λ (o : OfferValue). chosen_by o.ciphers o.signings) t
      ∙ ap (λ (w : NegotiateResponseValue). chosen_by (told_of w).ciphers (told_of w).signings) e)),
)

-- as a result that may lack memory
pub hint_turns : {E : Type 0} (c : ClientSettings) (m : List ℕ) (v : NegotiateResponseValue) (told : OfferValue) (hashes : ℕ)
    (r : Result (Result Chosen DialogRefusal) E) → is_none (negotiate_response_fault m) ≡ true → v ≡ negotiate_response_in m
    → offer_fault v.contexts v.negotiate_context_count ≡ None → told ≡ offer_in v.contexts v.negotiate_context_count
    → hashes ≡ length (ids_in (first_of 1 (contexts_in v.contexts 0 v.negotiate_context_count)))
    → choice_by c v.dialect_revision told.sha512 hashes told.ciphers told.signings ≡ None
    → IfOk r (λ x. GreetingHints v.security told.ciphers told.signings x) → IfOk r (λ x. Greets c m x)
hint_turns c m v told hashes (Err e) whole is fits t n f h = tt
hint_turns c m v told hashes (Ok (Ok chosen)) whole is fits t n f h = greets c m v told hashes chosen whole is fits t n f h.0 h.1
hint_turns c m v told hashes (Ok (Err why)) whole is fits t n f h =
    no_hint c m v told hashes whole is fits t n f h.0 ∙ ap (λ (w : Refusal). Some w) (sym h.1)
