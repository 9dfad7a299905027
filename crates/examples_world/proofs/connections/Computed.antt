-- What the ends come to, computed.
use Rattle.std.proofs.Common.{◌≡◌, ◌≤◌, true, false, [], ◌∷◌, Some, length, replicate, refl, arith}
use Rattle.spec_exchange.specs.Commands.{has_bit}
use Rattle.spec_exchange.specs.Status.{user_session_deleted, access_denied}
use Rattle.spec_exchange.specs.Client.{SaidSecond}
use Rattle.spec_exchange.specs.Table.{is_filled}
use Rattle.spec_exchange.specs.Network.{Take}
use Rattle.spec_exchange.specs.CheckSetup.{setup_check}
use Rattle.spec_exchange.specs.Effects.{apply}
use Rattle.spec_exchange.specs.Fold.{nothing_yet}
use Rattle.spec_exchange.specs.Verdict.{Refuse, Challenge}
use Rattle.spec_commands.specs.Tables.{bit_if}
use Rattle.spec_wire.specs.messages.Places.{number_of, le, bytes_at}
use Rattle.spec_crypto.specs.sessions.Sealing.{sealed}
use Rattle.spec_crypto.specs.sessions.Signing.{verifies}
use Rattle.law_crypto.proofs.sealing.Verifying.{verified}
use Rattle.spec_world.specs.Ends.{nonce_at, no_client_end, first_server_end, BadFrame, SecondNegotiate}
use Rattle.spec_world.specs.Hearing.{turn_end, fault_of}
use Rattle.spec_world.specs.Messages.{header_in, message_spelling}
use Rattle.spec_world.specs.Logon.{Interim, Final}
use Rattle.spec_world.specs.Answering.{sealed_each, seals_of, told_each}
use Rattle.spec_world.specs.Sending.{request_text, setup_text}
use Rattle.spec_world.specs.Dialog.{own_final, flags_fit, setup_flags, seals_told}
use Rattle.spec_world.specs.World.{may_pay}
use Rattle.spec_world.specs.Events.{bytes_happen, bytes_start, Plain}
use Rattle.examples_world.specs.connections.Parts.{behind, messages_of, transcripts_of, some_keys, seal_of, told_sealed}
use Rattle.examples_world.specs.connections.Parts.{an_echo, keyed_client}
use Rattle.examples_world.specs.connections.Parts.{echo_sent, binding_sent, accepted_on, setup_message, second_setup}
use Rattle.examples_world.specs.connections.Parts.{first_epoch, some_settings}
use Rattle.examples_world.specs.connections.Parts.{making_end, setup_header, binding_verified, an_echo_heard, told_flags}

-- ---- the server's end

pub begun_again : (behind (Interim true)).server_end.making ≡ Some ((1 ∷ []) ∷ (2 ∷ []) ∷ (7 ∷ []) ∷ (8 ∷ []) ∷ [])
unfolding told_each
begun_again = refl

pub counts_on : (behind (Interim true)).server_end.counter ≡ 5
unfolding told_each
counts_on = refl

pub session_noted : messages_of (behind (Final false 1 true)).endings ≡ (8 ∷ []) ∷ []
unfolding told_each
session_noted = refl

pub channel_noted : messages_of (behind (Final true 2 true)).endings ≡ (8 ∷ []) ∷ []
unfolding told_each
channel_noted = refl

pub noted_over :
    transcripts_of (behind (Final true 2 true)).endings ≡ ((1 ∷ []) ∷ (2 ∷ []) ∷ (3 ∷ []) ∷ (4 ∷ []) ∷ (7 ∷ []) ∷ []) ∷ []
unfolding told_each
noted_over = refl

-- ---- what is sealed

pub reply_noted : told_sealed.sealings ≡ seal_of false 5 (8 ∷ []) ∷ []
unfolding seals_of
reply_noted = refl

pub reply_sealed : told_sealed.frames ≡ sealed some_keys false (nonce_at 2 5) (8 ∷ []) ∷ []
unfolding sealed_each
reply_sealed = refl

pub request_noted : echo_sent.sealings ≡ seal_of true 6 (request_text an_echo 2 false) ∷ []
request_noted = refl

pub request_sealed : (echo_sent.wires 0).up ≡ sealed some_keys true (nonce_at 2 6) (request_text an_echo 2 false) ∷ []
request_sealed = refl

-- ---- the client's end

pub request_paid : (echo_sent.wires 0).client_end.purse ≡ record { held = 3; next = 9 }
request_paid = refl

pub too_poor : may_pay keyed_client 6 ≡ false
too_poor = refl

pub rich_enough : may_pay keyed_client 5 ≡ true
rich_enough = refl

setup_length : length (setup_text true 0 [] an_echo) ≡ 88
unfolding setup_text message_spelling bit_if number_of le bytes_at
setup_length = refl

long_enough : 64 ≤ length (setup_text true 0 [] an_echo)
long_enough = let e = setup_length in omega (arith, e)

pub binding_signed : verifies some_keys.signing binding_sent ≡ true
binding_signed = verified some_keys.signing (setup_text true 0 [] an_echo) long_enough

pub binding_keys : (own_final keyed_client true 0).to_server ≡ replicate 32 2
binding_keys = refl

pub session_sealed : (accepted_on 4).encrypts ≡ true
unfolding seals_told setup_flags has_bit header_in message_spelling number_of le bytes_at
session_sealed = refl

pub session_plain : (accepted_on 0).encrypts ≡ false
unfolding seals_told setup_flags has_bit header_in message_spelling number_of le bytes_at
session_plain = refl

-- ---- values

pub unknown_session : setup_check nothing_yet setup_message second_setup ≡ Refuse user_session_deleted
unknown_session = refl

pub session_told : (apply first_epoch setup_message 0 Challenge).reply.session_id ≡ 0x1_0000_0001
session_told = refl

pub nothing_taken : (bytes_happen some_settings (bytes_start some_settings) (Plain (Take 3))).values.moment ≡ 0
unfolding is_filled
nothing_taken = refl

-- ---- what is refused

pub signed_verified : binding_verified 8 ≡ verifies some_keys.signing (7 ∷ [])
unfolding has_bit
signed_verified = refl

pub unsigned_refused : binding_verified 0 ≡ false
unfolding has_bit
unsigned_refused = refl

pub negotiate_first : turn_end (first_server_end []) (setup_header 0) ≡ Some BadFrame
negotiate_first = refl

pub negotiate_once : turn_end making_end (record (setup_header 0) { command = 0 }) ≡ Some SecondNegotiate
negotiate_once = refl

pub refused_barred : fault_of making_end true true an_echo_heard ≡ Some access_denied
refused_barred = refl

pub no_guest : flags_fit no_client_end (SaidSecond false) (told_flags 1) ≡ false
unfolding setup_flags has_bit header_in message_spelling number_of le bytes_at
no_guest = refl

pub not_nobody : flags_fit no_client_end (SaidSecond false) (told_flags 2) ≡ false
unfolding setup_flags has_bit header_in message_spelling number_of le bytes_at
not_nobody = refl

pub not_unsealable : flags_fit no_client_end (SaidSecond false) (told_flags 4) ≡ false
unfolding setup_flags has_bit header_in message_spelling number_of le bytes_at
not_unsealable = refl

pub usual_session : flags_fit no_client_end (SaidSecond false) (told_flags 0) ≡ true
unfolding setup_flags has_bit header_in message_spelling number_of le bytes_at
usual_session = refl
