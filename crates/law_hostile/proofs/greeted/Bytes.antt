-- Which of the client's frames are a NEGOTIATE, and what is read of them.
use Rattle.std.proofs.Common.{◌≡◌, ℕ, ◌+◌, ◌<◌, ◌^◌, nat_lt, Bool, true, false, if◌then◌else◌, List, [], ◌++◌, ◌⊎◌, inl, inr}
use Rattle.std.proofs.Common.{length, take, refl, sym, ap, ◌∙◌, subst, arith, Option, Some, None}
use Rattle.std.specs.Prelude.{is_some}
use Rattle.std.proofs.lemmas.List.{length-take-le}
use Rattle.sha2.proofs.Facts256.{length-sha256}
use Rattle.spec_wire.specs.messages.Places.{number, number_of, le, bytes_at}
use Rattle.spec_wire.specs.messages.Header.{header_spelling}
use Rattle.spec_wire.specs.messages.Fault.{◌or_else◌}
use Rattle.spec_wire.specs.declared.messages.error.MessageError.{MessageError}
use Rattle.spec_wire.specs.declared.messages.error.MessageError.TheVariants.{Short}
use Rattle.spec_wire.specs.messages.Negotiate.{NegotiateRequestValue, SpellsNegotiateRequest, IsWritableNegotiateRequest, negotiate_request_fault}
use Rattle.spec_wire.specs.messages.Negotiate.{negotiate_request_in, negotiate_request_spelling}
use Rattle.spec_wire.proofs.messages.Numbers.{number_of-le}
use Rattle.law_commands.proofs.commands.ReadBack.{found}
use Rattle.spec_exchange.specs.Status.{invalid_parameter}
use Rattle.spec_exchange.specs.Commands.{Command, Unreadable, Aside, Setup, Logoff, TreeConnect, TreeDisconnect, Create, Close, Flush}
use Rattle.spec_exchange.specs.Commands.{Read, Write, Lock, Ioctl, ListDirectory, QueryFile, QueryVolume, SetInfo}
use Rattle.spec_exchange.specs.State.{Message}
use Rattle.spec_exchange.specs.Operations.{charge as charge_of}
use Rattle.spec_commands.specs.BodyOf.{body_of, number_of_command}
use Rattle.spec_crypto.specs.declared.sessions.material.Signer.{Signer}
use Rattle.spec_crypto.specs.sessions.Signing.{signed}
use Rattle.spec_world.specs.Settings.{WorldSettings, ClientSettings, draw}
use Rattle.spec_world.specs.Messages.{header_in, message_spelling}
use Rattle.spec_world.specs.Negotiate.{negotiate_status}
use Rattle.spec_world.specs.Sending.{request_header, request_text, greeting_text, setup_frame, setup_text}
use Rattle.law_ties.specs.wire_facts.Fitting.{IsFittingClient}
use Rattle.law_ties.proofs.wire_facts.Greeting.{offer_fits, asked_value, asked_fits, greeting_parts, IsRead, read_of}
use Rattle.law_hostile.specs.meant.Meant.{IsMeant, AsksNegotiate, AsksSetup, AsksLine, bytes_moved}
use Rattle.law_hostile.proofs.ids.Bearing.{signed_size}

-- ---- the command's number that a request's bytes tell

abbrev pub text : Message → ℕ → ℕ → Bool → List ℕ → List ℕ
text m charge command flagged body = message_spelling (request_header m charge command flagged) body

pub bare_command : (m : Message) (charge command : ℕ) (flagged : Bool) (body : List ℕ)
    → number 2 (text m charge command flagged body) 12 ≡ number_of (le 2 command)
unfolding message_spelling bytes_at le
bare_command m charge command flagged body = refl

signed_command : (s : Signer) (m : Message) (charge command : ℕ) (flagged : Bool) (body : List ℕ)
    → number 2 (signed s (text m charge command flagged body)) 12 ≡ number_of (le 2 command)
unfolding message_spelling signed bytes_at le
signed_command s m charge command flagged body = refl

pub tells_command : (frame : List ℕ) → (header_in frame).command ≡ number 2 frame 12
unfolding header_in
tells_command frame = refl

pub setup_command : (n : _) (bound : Bool) (previous : ℕ) (token : List ℕ) (m : Message) (frame : List ℕ)
    → frame ≡ setup_frame n bound previous token m → (header_in frame).command ≡ 1
unfolding setup_text
setup_command n true previous token m frame e =
    tells_command frame ∙ (ap (λ b. number 2 b 12) e ∙ (signed_command n.keys.signing m 1 1 true _ ∙ number_of-le 2 1 (omega arith)))
setup_command n false previous token m frame e =
    tells_command frame ∙ (ap (λ b. number 2 b 12) e ∙ (bare_command m 1 1 false _ ∙ number_of-le 2 1 (omega arith)))

pub small_number : (c : Command) → number_of_command c < 2 ^ 16
small_number (TreeConnect share) = omega arith
small_number (Create request) = omega arith
small_number (Close file query) = omega arith
small_number (Flush file) = omega arith
small_number (Read file at size minimum channel) = omega arith
small_number (Write file at bytes channel) = omega arith
small_number (Lock file index number elements) = omega arith
small_number (ListDirectory file class restart single pattern room) = omega arith
small_number (QueryFile file class room) = omega arith
small_number (SetInfo file setting) = omega arith
small_number _ = omega arith

pub line_command : (s : Signer) (m : Message) (charge : ℕ) (frame : List ℕ) → frame ≡ signed s (request_text m charge true)
    → (header_in frame).command ≡ number_of_command m.command
unfolding request_text
line_command s m charge frame e =
    tells_command frame
    ∙ (ap (λ b. number 2 b 12) e
    ∙ (signed_command s m charge (number_of_command m.command) true (body_of m.command)
    ∙ number_of-le 2 (number_of_command m.command) (small_number m.command)))

-- ---- a line's request of that number has no body, and isn't answered with success

other : (n : ℕ) (c : Command) → n ≡ 0 → 0 < n → body_of c ≡ []
other n c e l = absurd (omega (arith, e, l))

no_body : (c : Command) → number_of_command c ≡ 0 → body_of c ≡ []
unfolding body_of
no_body (TreeConnect share) e = other 3 (TreeConnect share) e (omega arith)
no_body (Create request) e = other 5 (Create request) e (omega arith)
no_body (Close file query) e = other 6 (Close file query) e (omega arith)
no_body (Flush file) e = other 7 (Flush file) e (omega arith)
no_body (Read file at size minimum channel) e = other 8 (Read file at size minimum channel) e (omega arith)
no_body (Write file at bytes channel) e = other 9 (Write file at bytes channel) e (omega arith)
no_body (Lock file index number elements) e = other 10 (Lock file index number elements) e (omega arith)
no_body (ListDirectory file class restart single pattern room) e =
    other 14 (ListDirectory file class restart single pattern room) e (omega arith)
no_body (QueryFile file class room) e = other 16 (QueryFile file class room) e (omega arith)
no_body (SetInfo file setting) e = other 17 (SetInfo file setting) e (omega arith)
no_body (Unreadable status) e = refl
no_body (Aside status) e = refl
no_body (Setup request) e = refl
no_body Logoff e = refl
no_body TreeDisconnect e = refl
no_body (Ioctl file code room) e = refl
no_body (QueryVolume file class room) e = refl

short_first : (n : ℕ) (rest b c d : Option MessageError) → n ≡ 64
    → is_some ((if nat_lt n 64 then Some (Short 0) else if nat_lt n 66 then Some (Short 64) else rest) or_else b or_else c or_else d) ≡ true
short_first n rest b c d e =
    subst (λ k. is_some ((if nat_lt k 64 then Some (Short 0) else if nat_lt k 66 then Some (Short 64) else rest) or_else b or_else c or_else d)
    ≡ true) (sym e) refl

short_fault : (m : List ℕ) → length m ≡ 64 → is_some (negotiate_request_fault m) ≡ true
short_fault m e = short_first (length m) _ _ _ _ e

pub if_true : {X : Type 0} (b : Bool) (x y : X) → b ≡ true → (if b then x else y) ≡ x
if_true true x y e = refl
if_true false x y e = absurd (let h : false ≡ true = e in cc)

short_status : (m : List ℕ) → length m ≡ 64 → negotiate_status m ≡ invalid_parameter
unfolding negotiate_status
short_status m e = if_true (is_some (negotiate_request_fault m)) invalid_parameter _ (short_fault m e)

bodiless_size : (s : Signer) (m : Message) (charge : ℕ) (frame : List ℕ) → number_of_command m.command ≡ 0
    → frame ≡ signed s (request_text m charge true) → length frame ≡ 64
unfolding request_text
bodiless_size s m charge frame none e =
    ap length e
    ∙ (signed_size s m charge (number_of_command m.command) true (body_of m.command)
    ∙ ap (λ b. 64 + length b) (no_body m.command none))

-- ---- the client's NEGOTIATE is read as it was meant

draw_length : (seed : List ℕ) (n : ℕ) → length (take 32 (draw seed n)) ≡ 32
unfolding draw
draw_length seed n = length-take-le 32 (draw seed n) (let e = length-sha256 (seed ++ le 8 n) in omega (arith, e))

header_long : (m : Message) → length (header_spelling (request_header m 1 0 false)) ≡ 64
unfolding le
header_long m = refl

pub record NegotiateReads : Type 0 where
  pub one : (m : List ℕ) (v w : NegotiateRequestValue) → SpellsNegotiateRequest m v → SpellsNegotiateRequest m w → v ≡ w
  pub whole : (m : List ℕ) (v : NegotiateRequestValue) → SpellsNegotiateRequest m v → negotiate_request_fault m ≡ None
  pub given : (m : List ℕ) → negotiate_request_fault m ≡ None → SpellsNegotiateRequest m (negotiate_request_in m)
  pub again : (front rest : List ℕ) (v : NegotiateRequestValue) → length front ≡ 64 → IsWritableNegotiateRequest v
      → SpellsNegotiateRequest (front ++ (negotiate_request_spelling v ++ rest)) v

pub greeting_reads : NegotiateReads → (s : ClientSettings) (seed : List ℕ) (n : ℕ) (m : Message) → IsFittingClient s
    → IsRead (greeting_text s (take 32 (draw seed n)) m) s (take 32 (draw seed n))
greeting_reads law s seed n m fitting =
    let salt = take 32 (draw seed n) in
    let h = request_header m 1 0 false in
    let v = asked_value s salt in
    let fit = offer_fits s salt fitting (draw_length seed n) in
    let all = header_spelling h ++ (negotiate_request_spelling v ++ []) in
    let is = found SpellsNegotiateRequest negotiate_request_fault negotiate_request_in law.one law.whole law.given all v
    (law.again (header_spelling h) [] v (header_long m) (asked_fits s salt fitting fit)) in
    subst (λ y. IsRead y s salt) (sym (greeting_parts s salt m)) (read_of all s salt is fit)

-- ---- all of them

-- a request whose header tells a NEGOTIATE is the client's own, or isn't answered with success
pub negotiates : NegotiateReads → (z : WorldSettings) (frame : List ℕ) (m : Message) → IsFittingClient z.client → IsMeant z frame m
    → (header_in frame).command ≡ 0
    → ((salt : List ℕ) × IsRead frame z.client salt) ⊎ (negotiate_status frame ≡ invalid_parameter)
negotiates law z frame m fitting (AsksNegotiate n command e) zero =
    let salt = take 32 (draw z.seed n) in
    inl (salt, subst (λ b. IsRead b z.client salt) (sym e) (greeting_reads law z.client z.seed n m fitting))
negotiates law z frame m fitting (AsksSetup n r token command sequence own e) zero =
    absurd (let one = setup_command n r.binding r.previous token m frame e in omega (arith, one, zero))
negotiates law z frame m fitting (AsksLine s e) zero =
    let none = sym (line_command s m (charge_of (bytes_moved m.command)) frame e) ∙ zero in
    inr (short_status frame (bodiless_size s m (charge_of (bytes_moved m.command)) frame none e))
