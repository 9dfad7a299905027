-- A dialog's SESSION_SETUP is read as what it was made for, by an end that has no keys.
use Rattle.std.proofs.Common.{◌≡◌, ℕ, ◌+◌, ◌<◌, ◌≤◌, ◌^◌, inl, inr, Bool, true, false, ◌&&◌, List, []}
use Rattle.std.proofs.Common.{◌∷◌, length, refl, sym, ap, ◌∙◌, arith, Some, None, Ok}
use Rattle.std.specs.Prelude.{option_map}
use Rattle.spec_wire.specs.messages.Places.{number_of}
use Rattle.spec_wire.specs.messages.Header.{IsWritableHeader}
use Rattle.spec_wire.specs.messages.SessionSetup.{session_setup_request_whole, session_setup_request_spelling}
use Rattle.law_wire.proofs.messages.Rows.{length-with_fields, size_of}
use Rattle.spec_exchange.specs.Commands.{Command, Setup, Shows, has_bit}
use Rattle.spec_exchange.specs.State.{Message}
use Rattle.spec_exchange.specs.Network.{ForDialog}
use Rattle.spec_commands.specs.CommandOf.{Told, heard_as as message_as, command_of, message_of}
use Rattle.spec_commands.specs.Tables.{bit_if}
use Rattle.spec_crypto.specs.declared.sessions.material.Keys.{Keys}
use Rattle.spec_crypto.specs.sessions.Signing.{signed, verifies}
use Rattle.spec_world.specs.Settings.{WorldSettings, chosen_of}
use Rattle.spec_world.specs.Messages.{HeardMessage, messages_in}
use Rattle.spec_world.specs.Ends.{ClientEnd, ServerEnd, Logons}
use Rattle.spec_world.specs.Hearing.{is_too_long, begins_sealed, opened_text, opened_by, text_of, checked_as, is_misplaced}
use Rattle.spec_world.specs.Logon.{token_in, token_shows}
use Rattle.spec_world.specs.Connection.{told_of, heard_message}
use Rattle.spec_world.specs.Sending.{request_header, setup_text, setup_frame}
use Rattle.law_ties.specs.wire_facts.Fitting.{IsSent, IsMessage, Bare}
use Rattle.law_ties.specs.wire_facts.Lawful.{header_as, heard_under, IsLawful}
use Rattle.law_ties.proofs.wire_facts.Setups.{request_fits, setup_value, setup_fits, SetupSent, setup_message}
use Rattle.law_ties.specs.events.Links.{Asked, GreetedAs}
use Rattle.law_ties.proofs.events.Keeping.{false_open}
use Rattle.law_ties.proofs.requests.Asking.{not_long, plain_by_tests, related_not, replay_told, small_low}
use Rattle.law_ties.proofs.requests.Commands.{placed_well}

-- what the client asks
pub record IsSetupMessage (z : WorldSettings) (k : ℕ) (m : Message) (bound : Bool) (previous : ℕ) (shown : Shows) : Type 0 where
  pub connection : m.connection ≡ k
  pub client : m.client_guid ≡ number_of z.client.guid
  pub fault : m.fault ≡ None
  pub sent : IsSent m 1
  pub command :
      m.command ≡ Setup (record {
        readable = true;
        binding = bound;
        signed = bound;
        verified = bound;
        previous = previous;
        cipher = (chosen_of z.client).cipher;
        signing = (chosen_of z.client).signing;
        shows = shown;
      })

signed_told : (a b : Bool) → has_bit (bit_if a 8 + bit_if b 0x2000_0000) 8 ≡ a
unfolding has_bit bit_if
signed_told true true = refl
signed_told true false = refl
signed_told false true = refl
signed_told false false = refl

setup_length : (bound : Bool) (previous : ℕ) (token : List ℕ) → previous < 256 ^ 8 → length token < 256 ^ 2
    → length (session_setup_request_spelling (setup_value bound previous token)) ≤ 65900
unfolding size_of
setup_length bound previous token p short =
    let v = setup_value bound previous token in
    let e : length (session_setup_request_spelling v) ≡ 24 + length token =
    length-with_fields (session_setup_request_whole v) [] (setup_fits bound previous token p short) ∙ omega arith in
    omega (arith, e, short)

-- ---- the frame

sent_as : (n : ClientEnd) (bound : Bool) (previous : ℕ) (token : List ℕ) (m : Message)
    → SetupSent bound previous token m (setup_frame n bound previous token m)
sent_as n true previous token m = inr (n.keys.signing, refl, refl)
sent_as n false previous token m = inl (refl, refl)

pub setup_is : (n : ClientEnd) (bound : Bool) (previous : ℕ) (token : List ℕ) (m : Message)
    → IsMessage (request_header m 1 1 bound) (session_setup_request_spelling (setup_value bound previous token))
    (setup_frame n bound previous token m)
setup_is n bound previous token m = setup_message bound previous token m (setup_frame n bound previous token m)
    (sent_as n bound previous token m)

abbrev pub setup_heard : ClientEnd → Bool → ℕ → List ℕ → Message → HeardMessage
setup_heard n bound previous token m = heard_under (request_header m 1 1 bound) (setup_frame n bound previous token m)

pub setup_opens : (z : WorldSettings) → IsLawful z
    → (n : ClientEnd) (bound : Bool) (previous : ℕ) (token : List ℕ) (m : Message) → IsSent m 1
    → previous < 256 ^ 8 → length token < 256 ^ 2
    → text_of None (setup_frame n bound previous token m)
    ≡ Ok (record { sealed = false; messages = setup_heard n bound previous token m ∷ [] })
setup_opens z law n bound previous token m sent p short =
    let h = request_header m 1 1 bound in
    let frame = setup_frame n bound previous token m in
    let body = session_setup_request_spelling (setup_value bound previous token) in
    let is = setup_is n bound previous token m in
    let fit : IsWritableHeader h = request_fits m 1 bound sent (omega arith) in
    let heads = law.headers in
    let size : length frame ≡ 64 + length body = heads.size h body frame fit is in
    let low = setup_length bound previous token p short in
    plain_by_tests (is_too_long None frame) (begins_sealed frame) (opened_text (opened_by None frame)) (messages_in frame) (heard_under h frame)
    (not_long 66000 (length frame) (omega (arith, size, low))) (heads.plain h body frame is) (heads.alone h body frame fit refl is)

-- ---- the message

verified_is : (z : WorldSettings) → IsLawful z → (n : ClientEnd) (own : Keys) (bound : Bool) (previous : ℕ) (token : List ℕ) (m : Message)
    → IsSent m 1 → (bound ≡ true → own ≡ n.keys)
    → (has_bit (bit_if bound 8 + bit_if m.replay 0x2000_0000) 8 && verifies own.signing (setup_frame n bound previous token m)) ≡ bound
unfolding setup_text
verified_is z law n own false previous token m sent e =
    ap (λ b. b && verifies own.signing (setup_frame n false previous token m)) (signed_told false m.replay)
verified_is z law n own true previous token m sent e =
    let h = request_header m 1 1 true in
    let body = session_setup_request_spelling (setup_value true previous token) in
    let plain = setup_text true previous token m in
    let frame = signed n.keys.signing plain in
    let fit : IsWritableHeader h = request_fits m 1 true sent (omega arith) in
    let heads = law.headers in
    let ciphers = law.ciphers in
    let size : length plain ≡ 64 + length body = heads.size h body plain fit (Bare refl) in
    let right : verifies n.keys.signing frame ≡ true = ciphers.verified n.keys.signing plain (omega (arith, size)) in
    ap (λ b. b && verifies own.signing frame) (signed_told true m.replay)
    ∙ (ap (λ (q : Keys). verifies q.signing frame) (e refl) ∙ right)

message_is : (z : WorldSettings) (k : ℕ) (m : Message) (bound : Bool) (previous : ℕ) (shown : Shows) (t : Told) (token frame : List ℕ)
    → IsSetupMessage z k m bound previous shown → t.connection ≡ k → t.client ≡ number_of z.client.guid → t.fault ≡ None
    → t.verified ≡ bound → t.cipher ≡ (chosen_of z.client).cipher → t.signing ≡ (chosen_of z.client).signing → t.shows token ≡ shown
    → command_of t (header_as (request_header m 1 1 bound) frame) frame ≡ Some (Setup (record {
      readable = true;
      binding = bound;
      signed = bound;
      verified = t.verified;
      previous = previous;
      cipher = t.cipher;
      signing = t.signing;
      shows = t.shows token;
    }))
    → message_of t (header_as (request_header m 1 1 bound) frame) frame ≡ Some m
unfolding message_of
message_is z k m bound previous shown t token frame i at client fault verified cipher signing shows command =
    let h = header_as (request_header m 1 1 bound) frame in
    let s = i.sent in
    let c : Command = Setup (record {
      readable = true;
      binding = bound;
      signed = bound;
      verified = t.verified;
      previous = previous;
      cipher = t.cipher;
      signing = t.signing;
      shows = t.shows token;
    }) in
    let d : Command = Setup (record {
      readable = true;
      binding = bound;
      signed = bound;
      verified = bound;
      previous = previous;
      cipher = (chosen_of z.client).cipher;
      signing = (chosen_of z.client).signing;
      shows = shown;
    }) in
    let told : c ≡ d = (λ j. Setup (record {
      readable = true;
      binding = bound;
      signed = bound;
      verified = verified j;
      previous = previous;
      cipher = cipher j;
      signing = signing j;
      shows = shows j;
    })) in
    let same : message_as t h c ≡ m = (λ j. record {
      connection = (at ∙ sym i.connection) j;
      client_guid = (client ∙ sym i.client) j;
      session_id = m.session_id;
      tree_id = m.tree_id;
      message_id = m.message_id;
      channel_sequence = small_low m.channel_sequence s.channel_sequence j;
      replay = replay_told bound m.replay j;
      fault = (fault ∙ sym i.fault) j;
      command = (told ∙ sym i.command) j;
    }) in
    ap (option_map (message_as t h)) command ∙ ap Some same

-- ---- it waits for an end that has no keys, but a greeting

pub setup_asked : (z : WorldSettings) → IsLawful z → (L : Logons) (k : ℕ) (f : ServerEnd) (n : ClientEnd) (bound : Bool) (previous : ℕ)
    (token : List ℕ) (m : Message) (shown : Shows) (next : ℕ) → IsSetupMessage z k m bound previous shown → f.keys ≡ None
    → GreetedAs z f.greeting → (bound ≡ true → L.keys m.session_id ≡ n.keys) → previous < 256 ^ 8 → length token < 256 ^ 2
    → token_shows z.server.users (L.pending k) token ≡ shown → m.message_id ≡ next
    → Asked z L k f (setup_frame n bound previous token m) (record { token = ForDialog; message = m }) (next, 1)
setup_asked z law L k f n bound previous token m shown next i no_keys greeted own p short shows id =
    let frame = setup_frame n bound previous token m in
    let x = setup_heard n bound previous token m in
    let s = i.sent in
    let setups = law.setups in
    let c = checked_as f false false true x in
    let t = told_of z.server L k f c in
    let all = setups.setup t bound previous token m frame s p short (sent_as n bound previous token m) in
    let message : heard_message z.server L k f c ≡ Some m =
    placed_well (is_misplaced c) (message_of t x.header frame) (Some m) (related_not bound m.replay)
    (message_is z k m bound previous shown t token frame i refl greeted.client refl
    (verified_is z law n (L.keys m.session_id) bound previous token m s own) greeted.cipher greeted.signing shows all.1) in record {
      reads = record {
        sealed = false;
        heard = x;
        text = ap (λ o. text_of o frame) no_keys ∙ setup_opens z law n bound previous token m s p short;
        message = message;
        id = id;
        charge = refl;
        turn = greeted.some;
        first = λ e. false_open e;
      };
      fault = refl;
      credits = refl;
      counts = refl;
      apart = related_not bound m.replay;
      charge_fits = omega arith;
      command_fits = omega arith;
      message_fits = s.message_id;
      sealing = λ e. false_open e;
      plain = λ e. refl;
      kind = λ e. false_open e;
      tree = λ e q. false_open q;
    }

-- the token that it carries
pub setup_token_is : (z : WorldSettings) → IsLawful z
    → (n : ClientEnd) (bound : Bool) (previous : ℕ) (token : List ℕ) (m : Message) (t : Told)
    → IsSent m 1 → previous < 256 ^ 8 → length token < 256 ^ 2 → token_in (setup_frame n bound previous token m) ≡ token
setup_token_is z law n bound previous token m t s p short =
    let setups = law.setups in
    let all = setups.setup t bound previous token m (setup_frame n bound previous token m) s p short
    (sent_as n bound previous token m) in all.0
