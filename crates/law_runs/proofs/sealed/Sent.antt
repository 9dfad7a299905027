-- What goes up is noted where it is sealed, and begins as no sealed frame else.
use Rattle.std.proofs.Common.{◌≡◌, ℕ, ◌+◌, Bool, true, false, if◌then◌else◌, List, [], ◌∷◌, ◌++◌, refl, Option, Some, None}
use Rattle.spec_wire.specs.declared.messages.header.Header.{Header}
use Rattle.spec_wire.specs.messages.SessionSetup.{session_setup_request_spelling}
use Rattle.spec_exchange.specs.State.{Message}
use Rattle.spec_exchange.specs.Network.{Token}
use Rattle.spec_crypto.specs.declared.sessions.material.Signer.{Signer}
use Rattle.spec_crypto.specs.sessions.Signing.{signed}
use Rattle.spec_crypto.specs.sessions.Sealing.{sealed}
use Rattle.spec_commands.specs.Tables.{bit_if}
use Rattle.spec_commands.specs.BodyOf.{number_of_command, body_of}
use Rattle.spec_world.specs.Settings.{WorldSettings, ClientSettings}
use Rattle.spec_world.specs.Negotiate.{negotiate_request_body}
use Rattle.spec_world.specs.Ends.{ClientEnd, nonce_at}
use Rattle.spec_world.specs.Hearing.{begins_sealed}
use Rattle.spec_world.specs.Answering.{Seal, SaidReply, with_signature, said_header, said_behind, said_text}
use Rattle.spec_world.specs.Sending.{request_header, request_text, line_frame, seal_to_server, seal_sent, spent, sealed_on, greeting_text}
use Rattle.spec_world.specs.Sending.{setup_text, setup_frame}
use Rattle.spec_world.specs.World.{World, queued, line_sent}
use Rattle.law_ties.specs.wire_facts.Fitting.{Bare, Signed}
use Rattle.law_ties.specs.wire_facts.Lawful.{IsLawful}
use Rattle.law_runs.proofs.sealed.Spelled.{IsKept, last_there, all_plain, all_more, UpKept, up_more, down_more, SpellsOf, one, grown}

-- ---- no seal

request_plain : (z : WorldSettings) → IsLawful z → (s : Signer) (m : Message) (charge : ℕ)
    → begins_sealed (signed s (request_text m charge true)) ≡ false
unfolding request_text
request_plain z law s m charge =
    let heads = law.headers in
    heads.plain (request_header m charge (number_of_command m.command) true) (body_of m.command) (signed s (request_text m charge true))
    (Signed s refl)

pub greeting_plain : (z : WorldSettings) → IsLawful z → (c : ClientSettings) (salt : List ℕ) (m : Message)
    → begins_sealed (greeting_text c salt m) ≡ false
unfolding greeting_text
greeting_plain z law c salt m =
    let heads = law.headers in
    heads.plain (request_header m 1 0 false) (negotiate_request_body c salt) (greeting_text c salt m) (Bare refl)

-- its fields behind the header
abbrev setup_body : Bool → ℕ → List ℕ → List ℕ
setup_body bound previous token =
    session_setup_request_spelling (record {
      flags = bit_if bound 1;
      security_mode = 1;
      capabilities = 0;
      channel = 0;
      previous_session_id = previous;
      security = token;
    })

setup_signed : (z : WorldSettings) → IsLawful z → (s : Signer) (bound : Bool) (previous : ℕ) (token : List ℕ) (m : Message)
    → begins_sealed (signed s (setup_text bound previous token m)) ≡ false
unfolding setup_text
setup_signed z law s bound previous token m =
    let heads = law.headers in
    heads.plain (request_header m 1 1 bound) (setup_body bound previous token)
    (signed s (setup_text bound previous token m)) (Signed s refl)

setup_bare : (z : WorldSettings) → IsLawful z → (bound : Bool) (previous : ℕ) (token : List ℕ) (m : Message)
    → begins_sealed (setup_text bound previous token m) ≡ false
unfolding setup_text
setup_bare z law bound previous token m =
    let heads = law.headers in
    heads.plain (request_header m 1 1 bound) (setup_body bound previous token) (setup_text bound previous token m) (Bare refl)

pub setup_plain : (z : WorldSettings) → IsLawful z → (n : ClientEnd) (bound : Bool) (previous : ℕ) (token : List ℕ) (m : Message)
    → begins_sealed (setup_frame n bound previous token m) ≡ false
setup_plain z law n true previous token m = setup_signed z law n.keys.signing true previous token m
setup_plain z law n false previous token m = setup_bare z law false previous token m

signer_plain : (z : WorldSettings) → IsLawful z → (o : Option Signer) (h : Header) (body : List ℕ)
    → begins_sealed (with_signature o h body) ≡ false
signer_plain z law None h body =
    let heads = law.headers in heads.plain h body (with_signature None h body) (Bare refl)
signer_plain z law (Some s) h body =
    let heads = law.headers in
    heads.plain (record h { flags = h.flags + 8 }) body (with_signature (Some s) h body) (Signed s refl)

-- a reply that isn't sealed
pub said_plain : (z : WorldSettings) → IsLawful z → (r : SaidReply) → begins_sealed (said_text false false r) ≡ false
said_plain z law r = signer_plain z law r.signer (said_header false r) (said_behind false r)

-- ---- a line's request

line_kept : (z : WorldSettings) → IsLawful z → (seals : List Seal) (n : ClientEnd) (m : Message) (charge : ℕ) (b : Bool)
    → UpKept (seals ++ (if b then seal_to_server n (request_text m charge false) ∷ [] else [])) n.keys
    ((if b then sealed n.keys true (nonce_at n.channel n.counter) (request_text m charge false)
    else signed n.keys.signing (request_text m charge true)) ∷ [])
line_kept z law seals n m charge true =
    let a : Seal = seal_to_server n (request_text m charge false) in
    let last = last_there seals a in
    ((λ s. (last.0, a, last.1, (refl, refl, refl))), tt)
line_kept z law seals n m charge false =
    all_plain (IsKept (seals ++ []) n.keys true) (signed n.keys.signing (request_text m charge true))
    (request_plain z law n.keys.signing m charge)

pub line : (z : WorldSettings) → IsLawful z → (x : World) (k : ℕ) (token : Token) (m : Message) (charge : ℕ) → SpellsOf x
    → SpellsOf (line_sent x k token m charge)
line z law x k token m charge h =
    let u = x.wires k in
    let n = u.client_end in
    let more = seal_sent n m charge in
    let frame = line_frame n m charge in
    one (x.sealings ++ more) x.wires k (queued u (sealed_on (spent n charge token)) frame)
    (all_more (IsKept (x.sealings ++ more) n.keys true) u.up (frame ∷ []) (up_more x.sealings more n.keys u.up (h.ups k))
    (line_kept z law x.sealings n m charge n.encrypts))
    (down_more x.sealings more u.server_end.keys u.down (h.downs k)) (grown x.sealings more x.wires h)
