-- What the client's requests name as their session and as the one before it.
use Rattle.std.proofs.Common.{◌≡◌, ℕ, zero, suc, ◌+◌, ◌*◌, ◌/◌, ◌%◌, ◌<◌, ◌^◌, true, false, List, ◌++◌, append_assoc, length, length-append}
use Rattle.std.proofs.Common.{refl, sym, ap, ◌∙◌, subst, arith}
use Rattle.std.proofs.Math.Nat.{pow-suc}
use Rattle.spec_wire.specs.messages.Places.{number, number_of, le, bytes_at}
use Rattle.spec_wire.specs.messages.SessionSetup.{session_setup_request_in}
use Rattle.spec_wire.proofs.messages.Numbers.{bytes_at-behind}
use Rattle.spec_exchange.specs.Commands.{has_bit}
use Rattle.spec_exchange.specs.State.{Message}
use Rattle.spec_crypto.specs.declared.sessions.material.Signer.{Signer}
use Rattle.spec_crypto.specs.sessions.Signing.{signed}
use Rattle.spec_commands.specs.Tables.{bit_if}
use Rattle.spec_world.specs.Messages.{header_in, message_spelling}
use Rattle.spec_world.specs.Ends.{ClientEnd}
use Rattle.spec_world.specs.Sending.{request_text, setup_text, setup_frame}
use Rattle.law_hostile.specs.ended.Requests.{AsksSession, session_named, previous_named, NamesSession}
use Rattle.law_hostile.proofs.greeted.Bytes.{setup_command, line_command}
use Rattle.law_hostile.proofs.setups.Own.{never_one}
use Rattle.law_hostile.proofs.setups.Texts.{body_of, signed_front, signed_is, signed_long}

-- ---- a number of so many bytes

one_more : (b n k : ℕ) → b < 256 → n < k → b + 256 * n < k * 256
one_more b n k l m = omega (arith, l, m)

byte : (n : ℕ) → n % 256 < 256
byte n = omega arith

pub low_number : (w n : ℕ) → number_of (le w n) < 256 ^ w
unfolding le number_of
low_number zero n = omega arith
low_number (suc w) n =
    let rest = low_number w (n / 256) in
    let more = one_more (n % 256) (number_of (le w (n / 256))) (256 ^ w) (byte n) rest in
    subst (λ k. n % 256 + 256 * number_of (le w (n / 256)) < k) (sym (pow-suc 256 w)) more

-- ---- a SESSION_SETUP that binds nothing

session_is : (previous : ℕ) (token : List ℕ) (m : Message) → session_named (setup_text false previous token m) ≡ number_of (le 8 m.session_id)
unfolding header_in setup_text message_spelling bytes_at le
session_is previous token m = refl

previous_is : (previous : ℕ) (token : List ℕ) (m : Message) → previous_named (setup_text false previous token m) ≡ number_of (le 8 previous)
unfolding setup_text message_spelling bytes_at le
previous_is previous token m = refl

flags_are : (previous : ℕ) (token : List ℕ) (m : Message) → has_bit (session_setup_request_in (setup_text false previous token m)).flags 1 ≡ false
unfolding setup_text message_spelling bytes_at le number_of has_bit bit_if
flags_are previous token m = refl

-- of a dialog that makes a session
pub setup_names : (n : ClientEnd) (previous : ℕ) (token : List ℕ) (m : Message)
    → NamesSession (setup_frame n false previous token m) m.session_id previous
setup_names n previous token m =
    record {
      asks = record { command = setup_command n false previous token m _ refl; flags = flags_are previous token m };
      session_ = session_is previous token m;
      previous_ = previous_is previous token m;
    }

-- ---- one that binds

two_long : length (le 2 25) ≡ 2
unfolding le
two_long = refl

one_long : (n : ℕ) → length (le 1 n) ≡ 1
unfolding le
one_long n = refl

abbrev behind_flags : ℕ → List ℕ → List ℕ
behind_flags previous token = le 1 1 ++ (le 4 0 ++ (le 4 0 ++ (le 2 88 ++ (le 2 (length token) ++ (le 8 previous ++ token)))))

parts : (previous : ℕ) (token : List ℕ) → body_of true previous token ≡ le 2 25 ++ (le 1 (bit_if true 1) ++ behind_flags previous token)
unfolding le
parts previous token = refl

behind : (front a : List ℕ) → length front ≡ 64 → length a ≡ 2 → 66 ≡ length (front ++ a)
behind front a e f = let s = length-append front a in omega (arith, e, f, s)

one_bit : has_bit (number_of (le 1 (bit_if true 1))) 1 ≡ true
unfolding has_bit number_of le bit_if
one_bit = refl

binds_told : (front : List ℕ) (previous : ℕ) (token : List ℕ) → length front ≡ 64
    → number 1 (front ++ body_of true previous token) 66 ≡ number_of (le 1 (bit_if true 1))
binds_told front previous token long =
    ap (λ l. number 1 (front ++ l) 66) (parts previous token)
    ∙ (ap (λ l. number 1 l 66) (sym (append_assoc front (le 2 25) (le 1 (bit_if true 1) ++ behind_flags previous token)))
    ∙ ap number_of (bytes_at-behind 1 (front ++ le 2 25) (le 1 (bit_if true 1)) (behind_flags previous token) 66
    (behind front (le 2 25) long two_long) (one_long (bit_if true 1))))

pub bound_not : (n : ClientEnd) (previous : ℕ) (token : List ℕ) (m : Message) → AsksSession (setup_frame n true previous token m) → ⊥
bound_not n previous token m a =
    let front = signed_front n.keys.signing true previous token m in
    let is = signed_is n.keys.signing true previous token m in
    let flags : number 1 (setup_frame n true previous token m) 66 ≡ number_of (le 1 (bit_if true 1)) =
    ap (λ l. number 1 l 66) is ∙ binds_told front previous token (signed_long n.keys.signing true previous token m) in
    let on : has_bit (session_setup_request_in (setup_frame n true previous token m)).flags 1 ≡ true =
    ap (λ f. has_bit f 1) flags ∙ one_bit in
    absurd (let q : true ≡ false = sym on ∙ a.flags in cc)

-- ---- other requests

pub line_not : (s : Signer) (m : Message) (charge : ℕ) → AsksSession (signed s (request_text m charge true)) → ⊥
line_not s m charge a = never_one m.command (sym (line_command s m charge _ refl) ∙ a.command)
