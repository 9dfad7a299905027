-- Computed; no hash is.
use Rattle.std.proofs.Common.{◌≡◌, [], ◌∷◌, true, false, refl}
use Rattle.spec_crypto.specs.sessions.Chain.{chain}
use Rattle.spec_exchange.specs.Commands.{has_bit}
use Rattle.spec_wire.specs.messages.Fault.{part_fault}
use Rattle.spec_wire.specs.messages.Places.{number_of, le, bytes_at}
use Rattle.spec_world.specs.Messages.{header_in, message_spelling}
use Rattle.spec_world.specs.Logon.{Interim}
use Rattle.spec_hostile.specs.SignedFor.{InSession, OnOpening, entries_up, noted_each, own_secret, no_secret, watching}
use Rattle.examples_world.specs.connections.Parts.{said_by}
use Rattle.examples_world.specs.repeats.Linked.{linked_channels, put_echo, places_signed}
use Rattle.examples_world.specs.repeats.Secrets.{logon_secret, accepting_end, accepted_secret, put_setup, signed_up, secrets_of}
use Rattle.examples_world.specs.repeats.Secrets.{final_reply, noted_behind, line_reply, secret_behind, reply_place, refused_binding}
use Rattle.examples_world.specs.repeats.Secrets.{secret_learned}

-- ---- the client's

pub request_secret : secrets_of (signed_up (put_echo ∷ [])) ≡ record { base = 1 ∷ []; value = chain ((0 ∷ []) ∷ []) } ∷ []
unfolding entries_up has_bit header_in message_spelling number_of le bytes_at
request_secret = refl

pub setup_secret : secrets_of (signed_up (put_setup ∷ [])) ≡ logon_secret ∷ []
unfolding entries_up has_bit header_in message_spelling number_of le bytes_at
setup_secret = refl

pub setup_place : places_signed (signed_up (put_setup ∷ [])) ≡ InSession 9 ∷ []
unfolding entries_up has_bit header_in message_spelling number_of le bytes_at
setup_place = refl

pub accepted_one : accepted_secret ≡ logon_secret
accepted_one = refl

pub own_one : own_secret accepting_end ≡ logon_secret
own_one = refl

pub learned_one : secret_learned false ≡ logon_secret
learned_one = refl

pub kept_one : secret_learned true ≡ no_secret
kept_one = refl

-- ---- the server's

pub session_final : secret_behind (watching linked_channels) (final_reply false) ≡ logon_secret
session_final = refl

pub binding_final : secret_behind (watching linked_channels) (final_reply true) ≡ logon_secret
binding_final = refl

pub session_line : secret_behind (noted_behind false) line_reply ≡ logon_secret
unfolding noted_each
session_line = refl

pub binding_line : secret_behind (noted_behind true) line_reply ≡ logon_secret
unfolding noted_each
binding_line = refl

pub session_interim : secret_behind (noted_behind false) (said_by (Interim true)) ≡ logon_secret
unfolding noted_each
session_interim = refl

pub binding_interim : secret_behind (noted_behind true) (said_by (Interim true)) ≡ no_secret
unfolding noted_each
binding_interim = refl

pub binding_refused : secret_behind (noted_behind false) refused_binding ≡ logon_secret
unfolding noted_each has_bit message_spelling number_of le bytes_at part_fault
binding_refused = refl

-- ---- and for which place

pub final_place : reply_place (watching linked_channels) (final_reply false) ≡ OnOpening 0 1
final_place = refl

pub line_place : reply_place (watching linked_channels) line_reply ≡ OnOpening 0 1
line_place = refl

pub interim_place : reply_place (watching linked_channels) (said_by (Interim true)) ≡ InSession 9
interim_place = refl

pub refusal_place : reply_place (watching linked_channels) refused_binding ≡ InSession 9
unfolding has_bit message_spelling number_of le bytes_at part_fault
refusal_place = refl
