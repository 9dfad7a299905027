-- What is read of a SESSION_SETUP of the client: its token, and the sequence of its header.
use Rattle.std.proofs.Common.{◌≡◌, ℕ, ◌+◌, ◌<◌, Bool, true, false, List, [], ◌++◌, append_assoc, length, length-append, take, refl, sym}
use Rattle.std.proofs.Common.{ap, ◌∙◌, arith}
use Rattle.std.proofs.lemmas.List.{append-nil}
use Rattle.spec_wire.specs.messages.Places.{number, number_of, le, bytes_at}
use Rattle.spec_wire.specs.messages.Header.{header_spelling}
use Rattle.spec_wire.specs.messages.SessionSetup.{session_setup_request_spelling}
use Rattle.spec_wire.proofs.messages.Numbers.{number_of-le, bytes_at-behind}
use Rattle.spec_exchange.specs.State.{Message}
use Rattle.spec_crypto.specs.declared.sessions.material.Signer.{Signer}
use Rattle.spec_crypto.specs.sessions.Signing.{signature, signed}
use Rattle.spec_commands.specs.Tables.{bit_if}
use Rattle.spec_world.specs.Messages.{header_in, message_spelling}
use Rattle.spec_world.specs.Ends.{ClientEnd}
use Rattle.spec_world.specs.Logon.{token_in}
use Rattle.spec_world.specs.Sending.{request_header, setup_text, setup_frame}
use Rattle.law_ties.proofs.wire_facts.Signed.{signature_length}
use Rattle.law_ties.proofs.wire_facts.Setups.{setup_value}
use Rattle.law_hostile.proofs.ids.Bearing.{front_size, back_is}

-- ---- behind any header of 64 bytes

abbrev pub body_of : Bool → ℕ → List ℕ → List ℕ
body_of bound previous token = session_setup_request_spelling (setup_value bound previous token)

abbrev twelve : Bool → List ℕ
twelve bound = le 2 25 ++ (le 1 (bit_if bound 1) ++ (le 1 1 ++ (le 4 0 ++ le 4 0)))

in_three : (bound : Bool) (previous : ℕ) (token : List ℕ)
    → body_of bound previous token ≡ twelve bound ++ (le 2 88 ++ (le 2 (length token) ++ (le 8 previous ++ token)))
unfolding le
in_three bound previous token = refl

twelve_long : (bound : Bool) → length (twelve bound) ≡ 12
unfolding le
twelve_long bound = refl

behind : (front a b : List ℕ) (n k : ℕ) → length front ≡ n → length a ≡ k → n + k ≡ length (front ++ a)
behind front a b n k e f = let s = length-append front a in omega (arith, e, f, s)

two_long : (n : ℕ) → length (le 2 n) ≡ 2
unfolding le
two_long n = refl

place_told : (front : List ℕ) (bound : Bool) (previous : ℕ) (token : List ℕ) → length front ≡ 64
    → number 2 (front ++ body_of bound previous token) 76 ≡ 88
place_told front bound previous token long =
    let rest = le 2 (length token) ++ (le 8 previous ++ token) in
    ap (λ l. number 2 (front ++ l) 76) (in_three bound previous token)
    ∙ (ap (λ l. number 2 l 76) (sym (append_assoc front (twelve bound) (le 2 88 ++ rest)))
    ∙ (ap number_of (bytes_at-behind 2 (front ++ twelve bound) (le 2 88) rest 76 (behind front (twelve bound) [] 64 12 long (twelve_long bound)) (two_long 88))
    ∙ number_of-le 2 88 (omega arith)))

fourteen : Bool → List ℕ
fourteen bound = twelve bound ++ le 2 88

in_four : (bound : Bool) (previous : ℕ) (token : List ℕ)
    → body_of bound previous token ≡ fourteen bound ++ (le 2 (length token) ++ (le 8 previous ++ token))
unfolding le fourteen
in_four bound previous token = refl

fourteen_long : (bound : Bool) → length (fourteen bound) ≡ 14
unfolding le fourteen
fourteen_long bound = refl

size_told : (front : List ℕ) (bound : Bool) (previous : ℕ) (token : List ℕ) → length front ≡ 64 → length token < 65536
    → number 2 (front ++ body_of bound previous token) 78 ≡ length token
size_told front bound previous token long short =
    let rest = le 8 previous ++ token in
    ap (λ l. number 2 (front ++ l) 78) (in_four bound previous token)
    ∙ (ap (λ l. number 2 l 78) (sym (append_assoc front (fourteen bound) (le 2 (length token) ++ rest)))
    ∙ (ap number_of (bytes_at-behind 2 (front ++ fourteen bound) (le 2 (length token)) rest 78
    (behind front (fourteen bound) [] 64 14 long (fourteen_long bound)) (two_long (length token)))
    ∙ number_of-le 2 (length token) short))

fixed_part : Bool → ℕ → ℕ → List ℕ
fixed_part bound previous size = fourteen bound ++ (le 2 size ++ le 8 previous)

in_two : (bound : Bool) (previous : ℕ) (token : List ℕ) → body_of bound previous token ≡ fixed_part bound previous (length token) ++ token
unfolding le fourteen fixed_part
in_two bound previous token = refl

fixed_long : (bound : Bool) (previous size : ℕ) → length (fixed_part bound previous size) ≡ 24
unfolding le fourteen fixed_part
fixed_long bound previous size = refl

bytes_told : (front : List ℕ) (bound : Bool) (previous : ℕ) (token : List ℕ) → length front ≡ 64
    → bytes_at (length token) (front ++ body_of bound previous token) 88 ≡ token
bytes_told front bound previous token long =
    let fixed = fixed_part bound previous (length token) in
    ap (λ l. bytes_at (length token) (front ++ l) 88) (in_two bound previous token ∙ ap (λ t. fixed ++ t) (sym (append-nil token)))
    ∙ (ap (λ l. bytes_at (length token) l 88) (sym (append_assoc front fixed (token ++ [])))
    ∙ bytes_at-behind (length token) (front ++ fixed) token [] 88
    (behind front fixed [] 64 24 long (fixed_long bound previous (length token))) refl)

at_place : (m : List ℕ) (n at k p : ℕ) → n ≡ k → at ≡ p → bytes_at n m at ≡ bytes_at k m p
at_place m n at k p e f = ap (λ i. bytes_at i m at) e ∙ ap (λ i. bytes_at k m i) f

token_behind : (front : List ℕ) (bound : Bool) (previous : ℕ) (token : List ℕ) → length front ≡ 64 → length token < 65536
    → token_in (front ++ body_of bound previous token) ≡ token
unfolding token_in
token_behind front bound previous token long short =
    let m = front ++ body_of bound previous token in
    at_place m (number 2 m 78) (number 2 m 76) (length token) 88 (size_told front bound previous token long short)
    (place_told front bound previous token long)
    ∙ bytes_told front bound previous token long

-- ---- signed or not

header_long : (m : Message) (bound : Bool) → length (header_spelling (request_header m 1 1 bound)) ≡ 64
unfolding le
header_long m bound = refl

bare_is : (bound : Bool) (previous : ℕ) (token : List ℕ) (m : Message)
    → setup_text bound previous token m ≡ header_spelling (request_header m 1 1 bound) ++ body_of bound previous token
unfolding setup_text message_spelling
bare_is bound previous token m = refl

abbrev pub signed_front : Signer → Bool → ℕ → List ℕ → Message → List ℕ
signed_front s bound previous token m =
    let t = message_spelling (request_header m 1 1 bound) (body_of bound previous token) in take 48 t ++ signature s t

pub signed_is : (s : Signer) (bound : Bool) (previous : ℕ) (token : List ℕ) (m : Message)
    → signed s (setup_text bound previous token m) ≡ signed_front s bound previous token m ++ body_of bound previous token
unfolding signed setup_text
signed_is s bound previous token m =
    let body = body_of bound previous token in
    let t = message_spelling (request_header m 1 1 bound) body in
    ap (λ l. take 48 t ++ (signature s t ++ l)) (back_is m 1 1 bound body) ∙ sym (append_assoc (take 48 t) (signature s t) body)

pub signed_long : (s : Signer) (bound : Bool) (previous : ℕ) (token : List ℕ) (m : Message) → length (signed_front s bound previous token m) ≡ 64
signed_long s bound previous token m =
    let body = body_of bound previous token in
    let t = message_spelling (request_header m 1 1 bound) body in
    length-append (take 48 t) (signature s t) ∙ summed (length (take 48 t)) (length (signature s t)) (front_size m 1 1 bound body) (signature_length s t)
  where
    summed : (a b : ℕ) → a ≡ 48 → b ≡ 16 → a + b ≡ 64
    summed a b e f = omega (arith, e, f)

pub token_is : (n : ClientEnd) (bound : Bool) (previous : ℕ) (token : List ℕ) (m : Message) (frame : List ℕ) → length token < 65536
    → frame ≡ setup_frame n bound previous token m → token_in frame ≡ token
token_is n true previous token m frame short e =
    ap token_in (e ∙ signed_is n.keys.signing true previous token m)
    ∙ token_behind (signed_front n.keys.signing true previous token m) true previous token (signed_long n.keys.signing true previous token m) short
token_is n false previous token m frame short e =
    ap token_in (e ∙ bare_is false previous token m)
    ∙ token_behind (header_spelling (request_header m 1 1 false)) false previous token (header_long m false) short

-- ---- its sequence

bare_sequence : (m : Message) (bound : Bool) (body : List ℕ)
    → number 4 (message_spelling (request_header m 1 1 bound) body) 8 ≡ number_of (le 4 m.channel_sequence)
unfolding message_spelling bytes_at le
bare_sequence m bound body = refl

signed_sequence : (s : Signer) (m : Message) (bound : Bool) (body : List ℕ)
    → number 4 (signed s (message_spelling (request_header m 1 1 bound) body)) 8 ≡ number_of (le 4 m.channel_sequence)
unfolding message_spelling signed bytes_at le
signed_sequence s m bound body = refl

tells_sequence : (frame : List ℕ) → (header_in frame).status ≡ number 4 frame 8
unfolding header_in
tells_sequence frame = refl

no_sequence : (n : ℕ) → n ≡ 0 → number_of (le 4 n) ≡ 0
no_sequence n e = ap (λ i. number_of (le 4 i)) e ∙ number_of-le 4 0 (omega arith)

pub sequence_is : (n : ClientEnd) (bound : Bool) (previous : ℕ) (token : List ℕ) (m : Message) (frame : List ℕ) → m.channel_sequence ≡ 0
    → frame ≡ setup_frame n bound previous token m → (header_in frame).status ≡ 0
unfolding setup_text
sequence_is n true previous token m frame zero e =
    tells_sequence frame
    ∙ (ap (λ b. number 4 b 8) e ∙ (signed_sequence n.keys.signing m true (body_of true previous token) ∙ no_sequence m.channel_sequence zero))
sequence_is n false previous token m frame zero e =
    tells_sequence frame
    ∙ (ap (λ b. number 4 b 8) e ∙ (bare_sequence m false (body_of false previous token) ∙ no_sequence m.channel_sequence zero))
