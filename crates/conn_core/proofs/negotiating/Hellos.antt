-- What answers a NEGOTIATE, by the tests in their order.
use Rattle.std.proofs.Common.{◌≡◌, ℕ, Bool, true, false, not, if◌then◌else◌, List, Some, None, Result, Ok, Err}
use Rattle.std.proofs.Common.{refl, sym, ap, ◌∙◌, arith}
use Rattle.std.specs.Prelude.{is_some}
use Rattle.spec_exchange.specs.Status.{success, invalid_parameter, not_supported}
use Rattle.spec_crypto.specs.declared.sessions.choice.Chosen.{Chosen}
use Rattle.spec_crypto.specs.declared.sessions.choice.ChooseError.{ChooseError}
use Rattle.spec_crypto.specs.declared.sessions.choice.ChooseError.TheVariants.{NoPreauth, NoHash}
use Rattle.spec_wire.specs.messages.Places.{number_of}
use Rattle.spec_wire.specs.messages.Negotiate.{NegotiateRequestValue, negotiate_request_in, negotiate_request_fault}
use Rattle.spec_wire.specs.messages.Offer.{OfferValue, offer_in, offer_fault}
use Rattle.spec_wire.specs.declared.messages.error.MessageError.{MessageError}
use Rattle.spec_wire.specs.declared.messages.refusal.CtxError.{CtxError}
use Rattle.spec_world.specs.Negotiate.{has_dialect, offer_told, negotiated, client_told, negotiate_status, negotiate_response_body}
use Rattle.spec_world.specs.Negotiate.{choice_of_offer, choice_status, chosen_or_none}
use Rattle.conn_core.specs.declared.negotiating.greeting.Hello.{Hello}
use Rattle.conn_core.specs.negotiating.Greeting.{HasDialect, IsAsked, IsHello}

abbrev verdict : Bool → Bool → Bool → Result Chosen ChooseError → ℕ
verdict fault dialect broken chosen =
    if fault then invalid_parameter else if not dialect then not_supported else if broken then invalid_parameter else choice_status chosen

abbrev faulty : List ℕ → Bool
faulty m = is_some (negotiate_request_fault m)

abbrev spoken : List ℕ → Bool
spoken m = has_dialect (negotiate_request_in m).dialects

abbrev broken_in : NegotiateRequestValue → Bool
broken_in v = is_some (offer_fault v.contexts v.negotiate_context_count)

abbrev choice_in : NegotiateRequestValue → Result Chosen ChooseError
choice_in v = choice_of_offer (offer_in v.contexts v.negotiate_context_count)

status_by : (m : List ℕ) (fault dialect broken : Bool) (chosen : Result Chosen ChooseError) → faulty m ≡ fault → spoken m ≡ dialect
    → broken_in (negotiate_request_in m) ≡ broken → choice_in (negotiate_request_in m) ≡ chosen
    → negotiate_status m ≡ verdict fault dialect broken chosen
unfolding negotiate_status
status_by m fault dialect broken chosen a b c d =
    ap (λ (x : Bool). verdict x (spoken m) (broken_in (negotiate_request_in m)) (choice_in (negotiate_request_in m))) a
    ∙ (ap (λ (x : Bool). verdict fault x (broken_in (negotiate_request_in m)) (choice_in (negotiate_request_in m))) b
    ∙ (ap (λ (x : Bool). verdict fault dialect x (choice_in (negotiate_request_in m))) c
    ∙ ap (λ (x : Result Chosen ChooseError). verdict fault dialect broken x) d))

refused_is : (guid salt : List ℕ) (now : ℕ) (m : List ℕ) (h : Hello) (status : ℕ) → h.status ≡ status → negotiate_status m ≡ status
    → (status ≡ success → ⊥) → IsHello guid salt now m h
refused_is guid salt now m h status told due fails = record {
  status = told ∙ sym due;
  client = λ e. absurd (fails (sym due ∙ e));
  chosen = λ e. absurd (fails (sym due ∙ e));
  body = λ e. absurd (fails (sym due ∙ e));
}

invalid : invalid_parameter ≡ success → ⊥
invalid e = omega (arith, e)

unsupported : not_supported ≡ success → ⊥
unsupported e = omega (arith, e)

refuses : (why : ChooseError) → choice_status (Err why) ≡ success → ⊥
refuses NoPreauth e = omega (arith, e)
refuses NoHash e = omega (arith, e)

-- a body that doesn't read
pub unreadable : (guid salt : List ℕ) (now : ℕ) (m : List ℕ) (h : Hello) (e : MessageError) → negotiate_request_fault m ≡ Some e
    → h.status ≡ invalid_parameter → IsHello guid salt now m h
unreadable guid salt now m h e fault told =
    refused_is guid salt now m h invalid_parameter told
    (status_by m true (spoken m) (broken_in (negotiate_request_in m)) (choice_in (negotiate_request_in m))
    (ap is_some fault) refl refl refl)
    invalid

-- no 0x0311
pub no_dialect : (guid salt : List ℕ) (now : ℕ) (m : List ℕ) (h : Hello) → negotiate_request_fault m ≡ None → spoken m ≡ false
    → h.status ≡ not_supported → IsHello guid salt now m h
no_dialect guid salt now m h whole other told =
    refused_is guid salt now m h not_supported told
    (status_by m false false (broken_in (negotiate_request_in m)) (choice_in (negotiate_request_in m)) (ap is_some whole) other refl refl)
    unsupported

-- ---- v is the request, of a dialect 0x0311

behind_tests : (m : List ℕ) (v : NegotiateRequestValue) (broken : Bool) (chosen : Result Chosen ChooseError) → IsAsked m v → HasDialect m
    → broken_in v ≡ broken → choice_in v ≡ chosen → negotiate_status m ≡ verdict false true broken chosen
behind_tests m v broken chosen asked dialect b c =
    status_by m false true broken chosen (ap is_some asked.whole) dialect
    (ap (λ (x : NegotiateRequestValue). broken_in x) (sym asked.is) ∙ b)
    (ap (λ (x : NegotiateRequestValue). choice_in x) (sym asked.is) ∙ c)

-- contexts that don't read
pub unread_contexts : (guid salt : List ℕ) (now : ℕ) (m : List ℕ) (h : Hello) (v : NegotiateRequestValue) (e : CtxError) → IsAsked m v
    → HasDialect m → offer_fault v.contexts v.negotiate_context_count ≡ Some e → h.status ≡ invalid_parameter → IsHello guid salt now m h
unread_contexts guid salt now m h v e asked dialect fault told =
    refused_is guid salt now m h invalid_parameter told
    (behind_tests m v true (choice_in v) asked dialect (ap is_some fault) refl) invalid

-- no context of preauthentication, or no SHA-512
pub no_choice : (guid salt : List ℕ) (now : ℕ) (m : List ℕ) (h : Hello) (v : NegotiateRequestValue) (offer : OfferValue)
    (why : ChooseError) → IsAsked m v → HasDialect m → offer_fault v.contexts v.negotiate_context_count ≡ None
    → offer ≡ offer_in v.contexts v.negotiate_context_count → choice_of_offer offer ≡ Err why → h.status ≡ choice_status (Err why)
    → IsHello guid salt now m h
no_choice guid salt now m h v offer why asked dialect whole is chosen told =
    refused_is guid salt now m h (choice_status (Err why)) told
    (behind_tests m v false (Err why) asked dialect (ap is_some whole) (ap (λ (o : OfferValue). choice_of_offer o) (sym is) ∙ chosen))
    (refuses why)

pub told_offer : (m : List ℕ) (v : NegotiateRequestValue) (offer : OfferValue) → IsAsked m v
    → offer ≡ offer_in v.contexts v.negotiate_context_count → offer ≡ offer_told m
told_offer m v offer asked is = is ∙ ap (λ (x : NegotiateRequestValue). offer_in x.contexts x.negotiate_context_count) asked.is

pub told_choice : (m : List ℕ) (offer : OfferValue) (chosen : Chosen) → offer ≡ offer_told m → choice_of_offer offer ≡ Ok chosen
    → chosen ≡ negotiated m
unfolding negotiated
told_choice m offer chosen is e =
    sym (ap (λ (o : OfferValue). chosen_or_none (choice_of_offer o)) (sym is) ∙ ap (λ (r : Result Chosen ChooseError). chosen_or_none r) e)

told_client : (m : List ℕ) (v : NegotiateRequestValue) (client : ℕ) → v ≡ negotiate_request_in m → client ≡ number_of v.client_guid
    → client ≡ client_told m
unfolding client_told
told_client m v client is e = e ∙ ap (λ (x : NegotiateRequestValue). number_of x.client_guid) is

-- a choice
pub chosen_hello : (guid salt : List ℕ) (now : ℕ) (m : List ℕ) (h : Hello) (v : NegotiateRequestValue) (offer : OfferValue)
    (chosen : Chosen) → IsAsked m v → HasDialect m → offer_fault v.contexts v.negotiate_context_count ≡ None
    → offer ≡ offer_in v.contexts v.negotiate_context_count → choice_of_offer offer ≡ Ok chosen → h.status ≡ success
    → h.client ≡ number_of v.client_guid → h.chosen ≡ chosen → h.body ≡ negotiate_response_body guid salt now m
    → IsHello guid salt now m h
chosen_hello guid salt now m h v offer chosen asked dialect whole is e told client kept body =
    let due = behind_tests m v false (Ok chosen) asked dialect (ap is_some whole)
    (ap (λ (o : OfferValue). choice_of_offer o) (sym is) ∙ e) in
    record {
      status = told ∙ sym due;
      client = λ _. told_client m v h.client asked.is client;
      chosen = λ _. kept ∙ told_choice m offer chosen (told_offer m v offer asked is) e;
      body = λ _. body;
    }
