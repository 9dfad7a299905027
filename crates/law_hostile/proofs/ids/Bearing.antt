-- A request's frame begins with a header that has its message's id, and no other message behind it.
use Rattle.std.proofs.Common.{◌≡◌, ℕ, ◌+◌, ◌≤◌, ◌<◌, ◌^◌, ◌==◌, nat_le, Bool, true, false, ◌&&◌, List, ◌++◌, ◌⊎◌, inl, inr, length}
use Rattle.std.proofs.Common.{take, drop, length-append, refl, sym, ap, ◌∙◌, subst, arith, None}
use Rattle.std.proofs.lemmas.Bool.Decides.{nat_tests}
use Rattle.std.specs.Str.{bytes_eq}
use Rattle.spec_wire.specs.messages.Places.{number, number_of, le, bytes_at}
use Rattle.spec_wire.specs.messages.Header.{protocol}
use Rattle.spec_wire.specs.messages.SessionSetup.{session_setup_request_spelling}
use Rattle.spec_wire.proofs.messages.Numbers.{number_of-le}
use Rattle.spec_crypto.specs.declared.sessions.material.Signer.{Signer}
use Rattle.spec_crypto.specs.sessions.Signing.{signature, signed}
use Rattle.spec_exchange.specs.Status.{success}
use Rattle.spec_exchange.specs.Commands.{Aside, Setup, SetupRequest}
use Rattle.spec_exchange.specs.State.{Message}
use Rattle.spec_exchange.specs.Operations.{Op, OpCreate, OpWrite, OpRead, OpEnd, OpTime, OpRename, OpRemove, OpLock, OpUnlock}
use Rattle.spec_exchange.specs.Operations.{OpFlush, OpStat, OpList, OpClose, request_of, reconnect_of, weight}
use Rattle.spec_exchange.specs.Operations.{charge as charge_of}
use Rattle.spec_commands.specs.BodyOf.{body_of, number_of_command}
use Rattle.spec_commands.specs.Tables.{bit_if}
use Rattle.law_server.proofs.tables.Logic.{either, both}
use Rattle.spec_world.specs.Settings.{WorldSettings, draw}
use Rattle.spec_world.specs.Messages.{has_header, header_in, message_spelling}
use Rattle.spec_world.specs.Ends.{ClientEnd, nonce_at}
use Rattle.spec_world.specs.Hearing.{begins_sealed}
use Rattle.spec_world.specs.Negotiate.{negotiate_request_body}
use Rattle.spec_world.specs.Sending.{request_header, request_text, line_frame, greeting_text, setup_text, setup_frame}
use Rattle.law_hostile.specs.ids.OwnIds.{BearsOne}
use Rattle.law_hostile.specs.meant.Meant.{IsMeant, IsOwnToken, AsksNegotiate, AsksSetup, AsksLine, bytes_moved}
use Rattle.law_ties.specs.wire_facts.Fitting.{IsMessage, Bare, Signed}
use Rattle.law_ties.proofs.wire_facts.Signed.{signature_length}
use Rattle.law_ties.proofs.wire_facts.Ciphers.{begins}
use Rattle.law_ties.proofs.wire_facts.Heads.{alone_is}

-- these bytes are this message's request, which goes up on connection k
pub record IsRequest (z : WorldSettings) (k : ℕ) (frame : List ℕ) (m : Message) : Type 0 where
  pub connection : m.connection ≡ k
  pub fault : m.fault ≡ None
  pub small : m.message_id < 2 ^ 64
  pub meant : IsMeant z frame m

-- or they are sealed
abbrev pub Bears : WorldSettings → ℕ → List ℕ → Message → Type 0
Bears z k frame m = (begins_sealed frame ≡ true) ⊎ IsRequest z k frame m

-- ---- the client's frames are such

-- a message of a line
pub record IsOwnAt (k cost : ℕ) (m : Message) : Type 0 where
  pub connection : m.connection ≡ k
  pub fault : m.fault ≡ None
  pub pays : cost ≡ charge_of (bytes_moved m.command)

pub own_moves : (op : Op) (guid file slot turn : ℕ) → bytes_moved (request_of op guid file slot turn) ≡ weight op
own_moves (OpCreate path access share disposition persist directory) guid file slot turn = refl
own_moves (OpWrite create at bytes) guid file slot turn = refl
own_moves (OpRead create at size) guid file slot turn = refl
own_moves (OpEnd create size) guid file slot turn = refl
own_moves (OpTime create time) guid file slot turn = refl
own_moves (OpRename create path) guid file slot turn = refl
own_moves (OpRemove create) guid file slot turn = refl
own_moves (OpLock create at size exclusive) guid file slot turn = refl
own_moves (OpUnlock create at size) guid file slot turn = refl
own_moves (OpFlush create) guid file slot turn = refl
own_moves (OpStat create) guid file slot turn = refl
own_moves (OpList create) guid file slot turn = refl
own_moves (OpClose create) guid file slot turn = refl

pub asked_moves : (op : Op) (guid file : ℕ) → bytes_moved (reconnect_of op guid file) ≡ 0
asked_moves (OpCreate path access share disposition persist directory) guid file = refl
asked_moves (OpWrite create at bytes) guid file = refl
asked_moves (OpRead create at size) guid file = refl
asked_moves (OpEnd create size) guid file = refl
asked_moves (OpTime create time) guid file = refl
asked_moves (OpRename create path) guid file = refl
asked_moves (OpRemove create) guid file = refl
asked_moves (OpLock create at size exclusive) guid file = refl
asked_moves (OpUnlock create at size) guid file = refl
asked_moves (OpFlush create) guid file = refl
asked_moves (OpStat create) guid file = refl
asked_moves (OpList create) guid file = refl
asked_moves (OpClose create) guid file = refl

pub line_bears : (z : WorldSettings) (k : ℕ) (n : ClientEnd) (m : Message) (cost : ℕ) → IsOwnAt k cost m → m.message_id < 2 ^ 64
    → Bears z k (line_frame n m cost) m
line_bears z k n m cost own small =
    either (λ b. Bears z k b m) n.encrypts _ (signed n.keys.signing (request_text m cost true))
    (λ _. inl (begins n.keys true (nonce_at n.channel n.counter) (request_text m cost false)))
    (λ _. inr (record {
      connection = own.connection;
      fault = own.fault;
      small = small;
      meant = AsksLine n.keys.signing (ap (λ c. signed n.keys.signing (request_text m c true)) own.pays);
    }))

pub setup_bears : (z : WorldSettings) (k : ℕ) (n : ClientEnd) (r : SetupRequest) (token : List ℕ) (m : Message) → m.connection ≡ k
    → m.fault ≡ None → m.command ≡ Setup r → m.channel_sequence ≡ 0 → IsOwnToken z token → m.message_id < 2 ^ 64
    → Bears z k (setup_frame n r.binding r.previous token m) m
setup_bears z k n r token m connection fault command sequence own small =
    inr (record { connection = connection; fault = fault; small = small; meant = AsksSetup n r token command sequence own refl })

pub greeting_bears : (z : WorldSettings) (k draws : ℕ) (m : Message) → m.connection ≡ k → m.fault ≡ None → m.command ≡ Aside success
    → m.message_id < 2 ^ 64 → Bears z k (greeting_text z.client (take 32 (draw z.seed draws)) m) m
greeting_bears z k draws m connection fault command small =
    inr (record { connection = connection; fault = fault; small = small; meant = AsksNegotiate draws command refl })

-- ---- what their bytes tell

abbrev text : Message → ℕ → ℕ → Bool → List ℕ → List ℕ
text m charge command flagged body = message_spelling (request_header m charge command flagged) body

bare_id : (m : Message) (charge command : ℕ) (flagged : Bool) (body : List ℕ)
    → number 8 (text m charge command flagged body) 24 ≡ number_of (le 8 m.message_id)
unfolding message_spelling bytes_at le
bare_id m charge command flagged body = refl

signed_id : (s : Signer) (m : Message) (charge command : ℕ) (flagged : Bool) (body : List ℕ)
    → number 8 (signed s (text m charge command flagged body)) 24 ≡ number_of (le 8 m.message_id)
unfolding message_spelling signed bytes_at le
signed_id s m charge command flagged body = refl

bare_last : (m : Message) (charge command : ℕ) (flagged : Bool) (body : List ℕ)
    → number 4 (text m charge command flagged body) 20 ≡ 0
unfolding message_spelling bytes_at le number_of
bare_last m charge command flagged body = refl

signed_last : (s : Signer) (m : Message) (charge command : ℕ) (flagged : Bool) (body : List ℕ)
    → number 4 (signed s (text m charge command flagged body)) 20 ≡ 0
unfolding message_spelling signed bytes_at le number_of
signed_last s m charge command flagged body = refl

begins_well : List ℕ → Bool
begins_well m = bytes_eq (bytes_at 4 m 0) protocol && (number 2 m 4 == 64)

bare_front : (m : Message) (charge command : ℕ) (flagged : Bool) (body : List ℕ)
    → begins_well (text m charge command flagged body) ≡ true
unfolding message_spelling bytes_at le number_of begins_well
bare_front m charge command flagged body = refl

signed_front : (s : Signer) (m : Message) (charge command : ℕ) (flagged : Bool) (body : List ℕ)
    → begins_well (signed s (text m charge command flagged body)) ≡ true
unfolding message_spelling signed bytes_at le number_of begins_well
signed_front s m charge command flagged body = refl

bare_size : (m : Message) (charge command : ℕ) (flagged : Bool) (body : List ℕ)
    → length (text m charge command flagged body) ≡ 64 + length body
unfolding message_spelling le
bare_size m charge command flagged body = omega arith

pub front_size : (m : Message) (charge command : ℕ) (flagged : Bool) (body : List ℕ)
    → length (take 48 (text m charge command flagged body)) ≡ 48
unfolding message_spelling le
front_size m charge command flagged body = refl

pub back_is : (m : Message) (charge command : ℕ) (flagged : Bool) (body : List ℕ) → drop 64 (text m charge command flagged body) ≡ body
unfolding message_spelling le
back_is m charge command flagged body = refl

summed : (a b c n : ℕ) → a ≡ 48 → b ≡ 16 → c ≡ n → a + (b + c) ≡ 64 + n
summed a b c n e f g = omega (arith, e, f, g)

pub signed_size : (s : Signer) (m : Message) (charge command : ℕ) (flagged : Bool) (body : List ℕ)
    → length (signed s (text m charge command flagged body)) ≡ 64 + length body
unfolding signed
signed_size s m charge command flagged body =
    let t = text m charge command flagged body in
    length-append (take 48 t) (signature s t ++ drop 64 t)
    ∙ (ap (λ n. length (take 48 t) + n) (length-append (signature s t) (drop 64 t))
    ∙ summed (length (take 48 t)) (length (signature s t)) (length (drop 64 t)) (length body)
    (front_size m charge command flagged body) (signature_length s t) (ap length (back_is m charge command flagged body)))

at_least : (n : ℕ) → 64 ≤ n → nat_le 64 n ≡ true
at_least n e = grind (arith, nat_tests)

-- bytes that are so begin a frame of one message
one_of : (frame : List ℕ) (id size : ℕ) → id < 2 ^ 64 → number 8 frame 24 ≡ number_of (le 8 id) → number 4 frame 20 ≡ 0
    → begins_well frame ≡ true → length frame ≡ 64 + size → BearsOne frame id
unfolding header_in has_header begins_well
one_of frame id size small told last front long =
    record {
      id_is = told ∙ number_of-le 8 id small;
      alone = alone_is frame size long
          (both (nat_le 64 (length frame)) _ (at_least (length frame) (omega (arith, long))) front) last;
    }

same_frame : (frame other : List ℕ) (id : ℕ) → frame ≡ other → BearsOne other id → BearsOne frame id
same_frame frame other id e h = subst (λ m. BearsOne m id) (sym e) h

one_by : (m : Message) (charge command : ℕ) (flagged : Bool) (body frame : List ℕ) → m.message_id < 2 ^ 64
    → IsMessage (request_header m charge command flagged) body frame → BearsOne frame m.message_id
one_by m charge command flagged body frame small (Bare e) =
    let t = text m charge command flagged body in
    same_frame frame t m.message_id e
    (one_of t m.message_id (length body) small (bare_id m charge command flagged body) (bare_last m charge command flagged body)
    (bare_front m charge command flagged body) (bare_size m charge command flagged body))
one_by m charge command flagged body frame small (Signed s e) =
    let t = signed s (text m charge command flagged body) in
    same_frame frame t m.message_id e
    (one_of t m.message_id (length body) small (signed_id s m charge command flagged body) (signed_last s m charge command flagged body)
    (signed_front s m charge command flagged body) (signed_size s m charge command flagged body))

abbrev setup_body : Bool → ℕ → List ℕ → List ℕ
setup_body bound previous token =
    session_setup_request_spelling (record {
      flags = bit_if bound 1;
      security_mode = 1;
      capabilities = 0;
      channel = 0;
      previous_session_id = previous;
      security = token;
    })

setup_by : (n : ClientEnd) (bound : Bool) (previous : ℕ) (token : List ℕ) (m : Message) (frame : List ℕ) → m.message_id < 2 ^ 64
    → frame ≡ setup_frame n bound previous token m → BearsOne frame m.message_id
unfolding setup_text
setup_by n true previous token m frame small e =
    one_by m 1 1 true (setup_body true previous token) frame small (Signed n.keys.signing e)
setup_by n false previous token m frame small e = one_by m 1 1 false (setup_body false previous token) frame small (Bare e)

greeting_by : (z : WorldSettings) (draws : ℕ) (m : Message) (frame : List ℕ) → m.message_id < 2 ^ 64
    → frame ≡ greeting_text z.client (take 32 (draw z.seed draws)) m → BearsOne frame m.message_id
unfolding greeting_text
greeting_by z draws m frame small e =
    one_by m 1 0 false (negotiate_request_body z.client (take 32 (draw z.seed draws))) frame small (Bare e)

line_by : (s : Signer) (m : Message) (cost : ℕ) (frame : List ℕ) → m.message_id < 2 ^ 64 → frame ≡ signed s (request_text m cost true)
    → BearsOne frame m.message_id
unfolding request_text
line_by s m cost frame small e = one_by m cost (number_of_command m.command) true (body_of m.command) frame small (Signed s e)

meant_by : (z : WorldSettings) (frame : List ℕ) (m : Message) → m.message_id < 2 ^ 64 → IsMeant z frame m → BearsOne frame m.message_id
meant_by z frame m small (AsksNegotiate draws command e) = greeting_by z draws m frame small e
meant_by z frame m small (AsksSetup n r token command sequence own e) = setup_by n r.binding r.previous token m frame small e
meant_by z frame m small (AsksLine s e) = line_by s m (charge_of (bytes_moved m.command)) frame small e

-- where it isn't sealed
pub bears_one : (z : WorldSettings) (k : ℕ) (frame : List ℕ) (m : Message) → begins_sealed frame ≡ false → Bears z k frame m
    → BearsOne frame m.message_id
bears_one z k frame m off (inl on) = absurd (cc)
bears_one z k frame m off (inr r) = meant_by z frame m r.small r.meant

pub bears_request : (z : WorldSettings) (k : ℕ) (frame : List ℕ) (m : Message) → begins_sealed frame ≡ false → Bears z k frame m
    → IsRequest z k frame m
bears_request z k frame m off (inl on) = absurd (cc)
bears_request z k frame m off (inr r) = r
