-- What is written of SESSION_SETUP and TREE_CONNECT fits, and what their flags say.
use Rattle.std.proofs.Common.{◌≡◌, ℕ, ◌+◌, ◌<◌, ◌^◌, ◌==◌, Bool, true, false, ◌||◌, ◌&&◌, if◌then◌else◌, List, length}
use Rattle.std.proofs.Common.{◌⊎◌, inl, inr, refl, sym, ap, ◌∙◌, subst, arith, Option, None}
use Rattle.std.specs.Prelude.{is_none}
use Rattle.spec_wire.specs.messages.Header.{IsWritableHeader}
use Rattle.spec_wire.specs.messages.SessionSetup.{SessionSetupRequestValue, IsWritableSessionSetupRequest, session_setup_request_spelling}
use Rattle.spec_wire.specs.messages.SessionSetup.{SessionSetupResponseValue, IsWritableSessionSetupResponse}
use Rattle.spec_wire.specs.messages.SessionSetup.{session_setup_response_spelling}
use Rattle.spec_exchange.specs.Status.{success, more_processing_required}
use Rattle.spec_wire.specs.messages.Error.{error_response_spelling}
use Rattle.spec_wire.specs.messages.TreeConnect.{IsWritableTreeConnectResponse, tree_connect_response_spelling}
use Rattle.spec_exchange.specs.Commands.{Command, Setup, TreeConnect, has_bit}
use Rattle.spec_exchange.specs.State.{Message, Reply, Connected}
use Rattle.spec_commands.specs.CommandOf.{Told, setup_of}
use Rattle.spec_commands.specs.ReplyBody.{reply_body, success_body, connected_value, seals_in}
use Rattle.spec_commands.specs.Tables.{bit_if}
use Rattle.spec_crypto.specs.declared.sessions.material.Signer.{Signer}
use Rattle.spec_crypto.specs.sessions.Signing.{signed}
use Rattle.spec_world.specs.Sending.{request_header, setup_text}
use Rattle.law_ties.specs.wire_facts.Fitting.{IsSent, IsMessage, Bare, Signed, IsSetUpBy, flags_of}
use Rattle.law_ties.specs.wire_facts.Lawful.{header_as}

-- ---- bits

small_bit : (b : Bool) → bit_if b 1 < 256 ^ 1
unfolding bit_if
small_bit true = omega arith
small_bit false = omega arith

small_flags : (a b : Bool) → bit_if a 8 + bit_if b 0x2000_0000 < 256 ^ 4
unfolding bit_if
small_flags true true = omega arith
small_flags true false = omega arith
small_flags false true = omega arith
small_flags false false = omega arith

small_seal : (b : Bool) → bit_if b 4 < 256 ^ 2
unfolding bit_if
small_seal true = omega arith
small_seal false = omega arith

signed_bit : (a b : Bool) → has_bit (bit_if a 8 + bit_if b 0x2000_0000) 8 ≡ a
unfolding has_bit bit_if
signed_bit true true = refl
signed_bit true false = refl
signed_bit false true = refl
signed_bit false false = refl

binding_bit : (a : Bool) → has_bit (bit_if a 1) 1 ≡ a
unfolding has_bit bit_if
binding_bit true = refl
binding_bit false = refl

-- ---- the request

pub request_fits : (m : Message) (command : ℕ) (b : Bool) → IsSent m 1 → command < 256 ^ 2 → IsWritableHeader (request_header m 1 command b)
request_fits m command b i small =
    let sequence = i.channel_sequence in (
      refl,
      (
        omega arith,
        (
          omega arith,
          (
            omega (arith, sequence),
            (
              small,
              (
                omega arith,
                (
                  small_flags b m.replay,
                  (
                    omega arith,
                    (i.message_id, (i.tree_id, (i.session_id, (refl, tt)))),
                  ),
                ),
              ),
            ),
          ),
        ),
      ),
    )

abbrev pub setup_value : Bool → ℕ → List ℕ → SessionSetupRequestValue
setup_value bound previous token = record {
  flags = bit_if bound 1;
  security_mode = 1;
  capabilities = 0;
  channel = 0;
  previous_session_id = previous;
  security = token;
}

pub setup_fits : (bound : Bool) (previous : ℕ) (token : List ℕ) → previous < 256 ^ 8 → length token < 256 ^ 2
    → IsWritableSessionSetupRequest (setup_value bound previous token)
setup_fits bound previous token p short =
    (omega arith, (small_bit bound, (omega arith, (omega arith, (omega arith, (omega arith, (short, (p, (refl, tt)))))))))

abbrev pub SetupSent : Bool → ℕ → List ℕ → Message → List ℕ → Type 0
SetupSent bound previous token m r =
    ((r ≡ setup_text bound previous token m) × (bound ≡ false))
    ⊎ ((s : Signer) × (r ≡ signed s (setup_text bound previous token m)) × (bound ≡ true))

pub setup_message : (bound : Bool) (previous : ℕ) (token : List ℕ) (m : Message) (r : List ℕ) → SetupSent bound previous token m r
    → IsMessage (request_header m 1 1 bound) (session_setup_request_spelling (setup_value bound previous token)) r
unfolding setup_text
setup_message bound previous token m r (inl e) = Bare e.0
setup_message bound previous token m r (inr e) = Signed e.0 e.1

pub setup_says : (t : Told) (bound : Bool) (previous : ℕ) (token : List ℕ) (m : Message) (r : List ℕ)
    → setup_of t (header_as (request_header m 1 1 bound) r) true (setup_value bound previous token) ≡ Setup (record {
      readable = true;
      binding = bound;
      signed = bound;
      verified = t.verified;
      previous = previous;
      cipher = t.cipher;
      signing = t.signing;
      shows = t.shows token;
    })
setup_says t bound previous token m r = λ i. Setup (record {
  readable = true;
  binding = binding_bit bound i;
  signed = signed_bit bound m.replay i;
  verified = t.verified;
  previous = previous;
  cipher = t.cipher;
  signing = t.signing;
  shows = t.shows token;
})

-- ---- the response

abbrev pub told_value : Reply → List ℕ → SessionSetupResponseValue
told_value r token = record { session_flags = flags_of r; security = token }

pub told_fits : (r : Reply) (token : List ℕ) → length token < 256 ^ 2 → IsWritableSessionSetupResponse (told_value r token)
told_fits r token short = (omega arith, (small_seal (seals_in r.body), (omega arith, (short, (refl, tt)))))

told_by : (status : ℕ) (x y : List ℕ) → (status ≡ success) ⊎ (status ≡ more_processing_required)
    → (if (status == success) || (true && (status == more_processing_required)) then x else y) ≡ x
told_by status x y (inl e) = subst (λ n. (if (n == success) || (true && (n == more_processing_required)) then x else y) ≡ x) (sym e) refl
told_by status x y (inr e) = subst (λ n. (if (n == success) || (true && (n == more_processing_required)) then x else y) ≡ x) (sym e) refl

pub told_body : (c : Command) (r : Reply) (token : List ℕ) → IsSetUpBy c r token
    → reply_body token c r ≡ session_setup_response_spelling (told_value r token)
unfolding reply_body
told_body c r token i =
    subst (λ x. reply_body token x r ≡ session_setup_response_spelling (told_value r token)) (sym i.command)
    (told_by r.status (session_setup_response_spelling (told_value r token)) _ i.status)

-- the reply to a TREE_CONNECT
tree_by : (status : ℕ) (x y : List ℕ) → status ≡ success
    → (if (status == success) || (false && (status == more_processing_required)) then x else y) ≡ x
tree_by status x y e = subst (λ n. (if (n == success) || (false && (n == more_processing_required)) then x else y) ≡ x) (sym e) refl

pub none_is : {X : Type 0} (o : Option X) → o ≡ None → is_none o ≡ true
none_is o e = ap is_none e

pub tree_body : (share token : List ℕ) (r : Reply) (kind capabilities access : ℕ) → r.status ≡ success
    → r.body ≡ Connected kind capabilities access
    → reply_body token (TreeConnect share) r ≡ tree_connect_response_spelling (connected_value kind capabilities access)
unfolding reply_body
tree_body share token r kind capabilities access ok e =
    ap (λ b. if (r.status == success) || (false && (r.status == more_processing_required)) then success_body token (TreeConnect share) b
    else error_response_spelling (record { error_context_count = 0; byte_count = 0 })) e
    ∙ tree_by r.status (tree_connect_response_spelling (connected_value kind capabilities access)) _ ok

pub tree_fits : (kind capabilities access : ℕ) → kind < 256 → capabilities < 256 ^ 4 → access < 256 ^ 4
    → IsWritableTreeConnectResponse (connected_value kind capabilities access)
tree_fits kind capabilities access k c a = (omega arith, (omega (arith, k), (omega arith, (c, (a, tt)))))
