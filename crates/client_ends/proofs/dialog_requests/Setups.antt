-- How long a SESSION_SETUP is behind its header.
use Rattle.std.proofs.Common.{◌≡◌, ℕ, ◌+◌, ◌<◌, Bool, true, false, if◌then◌else◌, List, [], ◌∷◌, ◌++◌, length, length-append}
use Rattle.std.proofs.Common.{sym, ap, ◌∙◌, arith}
use Rattle.spec_commands.specs.Tables.{bit_if}
use Rattle.spec_exchange.specs.State.{Message}
use Rattle.spec_crypto.specs.declared.sessions.material.Signer.{Signer}
use Rattle.spec_crypto.specs.sessions.Signing.{signed}
use Rattle.spec_wire.specs.messages.Places.{le}
use Rattle.spec_wire.specs.messages.Table.{Field, Num, Raw, Any, with_fields}
use Rattle.spec_wire.specs.messages.SessionSetup.{SessionSetupRequestValue, session_setup_request_spelling, session_setup_request_whole}
use Rattle.spec_wire.proofs.messages.Numbers.{length-le}
use Rattle.spec_world.specs.Ends.{ClientEnd}
use Rattle.spec_world.specs.Sending.{setup_frame, setup_text}
use Rattle.client_ends.specs.declared.dialog_requests.setup.Setup.{Setup}
use Rattle.client_ends.specs.dialog_requests.Dialogs.{setup_value}

fields_size : List Field → ℕ
fields_size [] = 0
fields_size (Num w n ∷ fs) = w + fields_size fs
fields_size (Raw w b ∷ fs) = length b + fields_size fs
fields_size (Any w ∷ fs) = w + fields_size fs

length_fields : (out : List ℕ) (fs : List Field) → length (with_fields out fs) ≡ length out + fields_size fs
unfolding fields_size
length_fields out [] = omega arith
length_fields out (Num w n ∷ fs) =
    let a = length_fields (out ++ le w n) fs in let b = length-append out (le w n) in let c = length-le w n in omega arith
length_fields out (Raw w b ∷ fs) =
    let a = length_fields (out ++ b) fs in let c = length-append out b in omega arith
length_fields out (Any w ∷ fs) =
    let a = length_fields (out ++ le w 0) fs in let b = length-append out (le w 0) in let c = length-le w 0 in omega arith

pub size_of : (v : SessionSetupRequestValue) → length v.security < 65536 → length (session_setup_request_spelling v) < 65600
unfolding fields_size
size_of v short = let a = length_fields [] (session_setup_request_whole v) in omega arith

-- ---- its flags, and who signs it

pub flagged : (s : Setup) (flags : ℕ) → flags ≡ bit_if s.bound 1
    → session_setup_request_spelling (record {
      flags = flags;
      security_mode = 1;
      capabilities = 0;
      channel = 0;
      previous_session_id = s.previous;
      security = s.token.now;
    }) ≡ session_setup_request_spelling (setup_value s)
flagged s flags e = λ t. session_setup_request_spelling (record {
  flags = e t;
  security_mode = 1;
  capabilities = 0;
  channel = 0;
  previous_session_id = s.previous;
  security = s.token.now;
})

pub in_binding : (n : ClientEnd) (s : Setup) (signer : Signer) (m : Message) (text frame : List ℕ) → s.bound ≡ true
    → n.keys.signing ≡ signer → text ≡ setup_text s.bound s.previous s.token.now m → frame ≡ signed signer text
    → frame ≡ setup_frame n s.bound s.previous s.token.now m
in_binding n s signer m text frame b k t e =
    e ∙ ((λ i. signed (sym k i) (t i))
    ∙ ap (λ (c : Bool). if c then signed n.keys.signing (setup_text s.bound s.previous s.token.now m)
    else setup_text s.bound s.previous s.token.now m) (sym b))

pub alone : (n : ClientEnd) (s : Setup) (m : Message) (text frame : List ℕ) → s.bound ≡ false
    → text ≡ setup_text s.bound s.previous s.token.now m → frame ≡ text → frame ≡ setup_frame n s.bound s.previous s.token.now m
alone n s m text frame b t e =
    e ∙ (t ∙ ap (λ (c : Bool). if c then signed n.keys.signing (setup_text s.bound s.previous s.token.now m)
    else setup_text s.bound s.previous s.token.now m) (sym b))
