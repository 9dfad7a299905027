-- What a server's end hears of a SESSION_SETUP: the sessions that its frame names, or a body that doesn't read.
use Rattle.std.proofs.Common.{◌≡◌, ℕ, ◌==◌, Bool, true, false, if◌then◌else◌, List, ◌⊎◌, inl, inr, refl, sym, ap, ◌∙◌, subst, Option, Some, None}
use Rattle.std.specs.Prelude.{option_map}
use Rattle.spec_wire.specs.messages.SessionSetup.{session_setup_request_in, session_setup_request_fault, SessionSetupRequestValue}
use Rattle.spec_wire.specs.declared.messages.header.Header.{Header}
use Rattle.spec_wire.specs.declared.messages.error.MessageError.{MessageError}
use Rattle.spec_exchange.specs.Commands.{Command, Setup, SetupRequest, has_bit}
use Rattle.spec_exchange.specs.State.{Message}
use Rattle.spec_commands.specs.CommandOf.{Told, heard_as, command_of, message_of, named_command, setup_in, setup_if}
use Rattle.spec_world.specs.Settings.{ServerSettings}
use Rattle.spec_world.specs.Ends.{ServerEnd, Logons}
use Rattle.spec_world.specs.Logon.{token_in}
use Rattle.spec_world.specs.Hearing.{Checked, is_misplaced}
use Rattle.spec_world.specs.Connection.{heard_message, told_of, placed, misplaced, misplaced_command}
use Rattle.law_hostile.specs.ended.Requests.{previous_named}

-- what its body tells
pub record BodyTells (t : Told) (b : List ℕ) (request : SetupRequest) : Type 0 where
  pub shows : request.shows ≡ t.shows (token_in b)
  pub previous : request.previous ≡ previous_named b
  pub binding : request.binding ≡ has_bit (session_setup_request_in b).flags 1

record Tells (t : Told) (b : List ℕ) (c : Command) : Type 0 where
  request : SetupRequest
  command : c ≡ Setup request
  body : (request.readable ≡ false) ⊎ BodyTells t b request

pub record HearsSetup (t : Told) (b : List ℕ) (h : Header) (m : Message) : Type 0 where
  pub request : SetupRequest
  pub command : m.command ≡ Setup request
  pub body : (request.readable ≡ false) ⊎ BodyTells t b request
  pub session : m.session_id ≡ h.session
  pub connection : m.connection ≡ t.connection

if_tells : (t : Told) (h : Header) (b : List ℕ) (o : Option MessageError) (v : SessionSetupRequestValue) → v ≡ session_setup_request_in b
    → v.security ≡ token_in b → Tells t b (setup_if t h o v)
if_tells t h b (Some e) v is token = record { request = _; command = refl; body = inl refl }
if_tells t h b None v is token =
    record {
      request = _;
      command = refl;
      body = inr (record {
        shows = ap t.shows token;
        previous = ap (λ (u : SessionSetupRequestValue). u.previous_session_id) is;
        binding = ap (λ (u : SessionSetupRequestValue). has_bit u.flags 1) is;
      });
    }

setup_tells : (t : Told) (h : Header) (b : List ℕ) → Tells t b (setup_in t h b)
unfolding setup_in token_in
setup_tells t h b = if_tells t h b (session_setup_request_fault b) (session_setup_request_in b) refl refl

misplaced_tells : (t : Told) (b : List ℕ) (o : Option ℕ) (c : Command) → Tells t b c → Tells t b (misplaced_command o c)
misplaced_tells t b o c a = subst (λ d. Tells t b (misplaced_command o d)) (sym a.command) (by o)
  where
    by : (p : Option ℕ) → Tells t b (misplaced_command p (Setup a.request))
    by (Some fault) = record { request = a.request; command = refl; body = a.body }
    by None = record { request = record a.request { readable = false }; command = refl; body = inl refl }

same_message : (x y : Message) → Some x ≡ Some y → x ≡ y
same_message x y e = cc

placed_hears : (t : Told) (h : Header) (b : List ℕ) (broken : Bool) (c : Command) (m : Message) → Tells t b c
    → placed broken (Some (heard_as t h c)) ≡ Some m → HearsSetup t b h m
placed_hears t h b true c m a e =
    let x = heard_as t h c in
    let same : misplaced x ≡ m = same_message (misplaced x) m e in
    let q = misplaced_tells t b x.fault c a in
    subst (λ n. HearsSetup t b h n) same
    (record { request = q.request; command = q.command; body = q.body; session = refl; connection = refl })
placed_hears t h b false c m a e =
    let x = heard_as t h c in
    let same : x ≡ m = same_message x m e in
    subst (λ n. HearsSetup t b h n) same
    (record { request = a.request; command = a.command; body = a.body; session = refl; connection = refl })

pub hears_setup : (z : ServerSettings) (L : Logons) (k : ℕ) (f : ServerEnd) (c : Checked) (m : Message) → heard_message z L k f c ≡ Some m
    → c.header.command ≡ 1 → HearsSetup (told_of z L k f c) c.bytes c.header m
unfolding message_of command_of
hears_setup z L k f c m heard one =
    let t = told_of z L k f c in
    let h = c.header in
    let is : command_of t h c.bytes ≡ Some (setup_in t h c.bytes) =
    ap (λ n. if n == 12 then None else Some (named_command n t h c.bytes)) one in
    placed_hears t h c.bytes (is_misplaced c) (setup_in t h c.bytes) m (setup_tells t h c.bytes)
    (ap (λ o. placed (is_misplaced c) (option_map (heard_as t h) o)) (sym is) ∙ heard)
