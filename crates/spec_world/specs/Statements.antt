-- What is said of runs over bytes.
use Rattle.std.specs.Prelude.{◌≡◌, ℕ, ◌≤◌, ◌<◌, ◌⊎◌, Bool, true, false, List, [], ◌∷◌, length, Some, None, Ok, slice_get}
use Rattle.spec_exchange.specs.Commands.{has_bit}
use Rattle.spec_exchange.specs.Network.{Event, Push, Sent}
use Rattle.spec_exchange.specs.Network.{answer, run, start}
use Rattle.spec_crypto.specs.declared.sessions.material.Keys.{Keys}
use Rattle.spec_crypto.specs.declared.sessions.material.Signer.{Signer}
use Rattle.spec_crypto.specs.sessions.Chain.{chain, hashed, Collide}
use Rattle.spec_crypto.specs.sessions.Derivation.{signing_key}
use Rattle.spec_crypto.specs.sessions.Signing.{verifies}
use Rattle.spec_crypto.specs.sessions.Sealing.{sealed}
use Rattle.spec_world.specs.Settings.{WorldSettings, values_of}
use Rattle.spec_world.specs.Ends.{ClientEnd, ServerEnd, nonce_at}
use Rattle.spec_world.specs.Hearing.{Checked, Frame, begins_sealed, check_frame, signed_by, is_negotiate, is_setup, is_probe}
use Rattle.spec_world.specs.Answering.{Ending, Seal}
use Rattle.spec_world.specs.World.{World, paid, step_at}
use Rattle.spec_world.specs.Events.{ByteEvent, Plain, bytes_happen, bytes_run, bytes_start}

-- ---- negotiation: a client accepts on the server's own transcript, or two lists have one hash, or the response is forged

abbrev pub signer_of_ending : Ending → Signer
signer_of_ending a = record { key = signing_key a.base a.chain; algorithm = a.algorithm }

-- the response verifies under the key of this base key and this chain value
abbrev pub IsVerified : Ending → Type 0
IsVerified a = verifies (signer_of_ending a) a.message ≡ true

-- the chain value is that of the transcript, which has five messages
pub record IsWhole (a : Ending) : Type 0 where
  pub five : length a.transcript ≡ 5
  pub value : a.chain ≡ chain a.transcript

-- base key, chain value and message are the same
pub record IsSame (e a : Ending) : Type 0 where
  pub base : e.base ≡ a.base
  pub value : e.chain ≡ a.chain
  pub message : e.message ≡ a.message

pub data Agreed (made : List Ending) (a : Ending) : Type 0 where
  AsMade : (i : ℕ) (e : Ending) → slice_get made i ≡ Some e → e.transcript ≡ a.transcript → Agreed made a
  Collides : (i : ℕ) (e : Ending) → slice_get made i ≡ Some e → Collide (hashed e.transcript) (hashed a.transcript) → Agreed made a
  IsForged : ((i : ℕ) (e : Ending) → slice_get made i ≡ Some e → IsSame e a → ⊥) → Agreed made a

pub record IsNegotiated (w : World) (a : Ending) : Type 0 where
  pub whole : IsWhole a
  pub verified : IsVerified a
  pub agreed : Agreed w.made a

-- Of every accepted final response, and every one that was made is whole.
pub record Negotiated (w : World) : Type 0 where
  pub accepted : (i : ℕ) (a : Ending) → slice_get w.accepted i ≡ Some a → IsNegotiated w a
  pub made : (i : ℕ) (e : Ending) → slice_get w.made i ≡ Some e → IsWhole e

-- over every run, tampered with or not
abbrev pub Negotiation : Type 0
Negotiation = (z : WorldSettings) (events : List ByteEvent) → Negotiated (bytes_run z events (bytes_start z))

-- ---- runs without tampering

unfoldable pub plainly : List Event → List ByteEvent
plainly [] = []
plainly (e ∷ es) = Plain e ∷ plainly es

abbrev pub plain_run : WorldSettings → List Event → World
plain_run z events = bytes_run z (plainly events) (bytes_start z)

-- ---- what is remembered binds, in a world of a run without tampering: each accepted final response is one that the server made

abbrev pub AcceptedIsMade : World → Type 0
AcceptedIsMade w = (i : ℕ) (a : Ending) → slice_get w.accepted i ≡ Some a → (j : ℕ) × (slice_get w.made j ≡ Some a)

-- and a ready channel's logon is remembered, over every run: the last response of its transcript, with its keys
abbrev pub IsAccepted : World → ClientEnd → Type 0
IsAccepted w n =
    (i : ℕ) × (a : Ending) × (slice_get w.accepted i ≡ Some a) × (a.transcript ≡ n.transcript) × (a.base ≡ n.base)
    × (signer_of_ending a ≡ n.keys.signing)

abbrev pub AcceptedIsKept : World → Type 0
AcceptedIsKept w = (k : ℕ) → w.values.client.ready k ≡ true → IsAccepted w (w.wires k).client_end

-- and each sealed frame that is on its way is remembered: a seal of this session and direction spells it under these keys
abbrev pub IsSpelledBy : Keys → Bool → List ℕ → Seal → Type 0
IsSpelledBy keys to_server frame a =
    (a.session ≡ keys.session) × (a.to_server ≡ to_server) × (sealed keys to_server (nonce_at a.channel a.counter) a.text ≡ frame)

abbrev pub IsRemembered : World → Keys → Bool → List ℕ → Type 0
IsRemembered w keys to_server frame = (j : ℕ) × (a : Seal) × (slice_get w.sealings j ≡ Some a) × IsSpelledBy keys to_server frame a

-- under the keys of the end that sent it
pub record SealsAreKept (w : World) : Type 0 where
  pub up :
      (k i : ℕ) (frame : List ℕ) → slice_get (w.wires k).up i ≡ Some frame → begins_sealed frame ≡ true →
      IsRemembered w (w.wires k).client_end.keys true frame
  pub down :
      (k i : ℕ) (frame : List ℕ) → slice_get (w.wires k).down i ≡ Some frame → begins_sealed frame ≡ true →
      (keys : Keys) × ((w.wires k).server_end.keys ≡ Some keys) × IsRemembered w keys false frame

-- ---- channels: each accepted one of a session has a number of its own, over every run

pub record AreNumbered (w : World) : Type 0 where
  pub given : (k : ℕ) → w.values.client.ready k ≡ true → (w.wires k).client_end.channel ≤ w.numbers
  pub own :
      (j k : ℕ) → w.values.client.ready j ≡ true → w.values.client.ready k ≡ true →
      (w.wires j).client_end.channel ≡ (w.wires k).client_end.channel → j ≡ k

abbrev pub ChannelsAreNumbered : Type 0
ChannelsAreNumbered = (z : WorldSettings) (events : List ByteEvent) → AreNumbered (bytes_run z events (bytes_start z))

-- and in a session numbers rise: the session's first channel has 1, and each further one a number above all before it
pub record NumbersRise (w v : World) : Type 0 where
  pub first : (k : ℕ) → w.values.client.live ≡ false → v.values.client.ready k ≡ true → (v.wires k).client_end.channel ≡ 1
  pub kept : w.values.client.live ≡ true → v.values.client.live ≡ true → w.numbers ≤ v.numbers
  pub further :
      (k : ℕ) → w.values.client.live ≡ true → w.values.client.ready k ≡ false → v.values.client.ready k ≡ true →
      (w.numbers < v.numbers) × ((v.wires k).client_end.channel ≡ v.numbers)

abbrev pub ChannelNumbersRise : Type 0
ChannelNumbersRise =
    (z : WorldSettings) (events : List ByteEvent) (e : ByteEvent) →
    NumbersRise (bytes_run z events (bytes_start z)) (bytes_happen z (bytes_run z events (bytes_start z)) e)

-- ---- nonces: no two messages are sealed under one in a session and a direction

pub record IsOneNonce (a b : Seal) : Type 0 where
  pub session : a.session ≡ b.session
  pub direction : a.to_server ≡ b.to_server
  pub bytes : nonce_at a.channel a.counter ≡ nonce_at b.channel b.counter

abbrev pub IsToClient : Seal → Type 0
IsToClient a = a.to_server ≡ false

abbrev pub NoncesOnce : World → Type 0
NoncesOnce w = (i j : ℕ) (a b : Seal) → slice_get w.sealings i ≡ Some a → slice_get w.sealings j ≡ Some b → IsOneNonce a b → i ≡ j

abbrev pub NoncesToClientOnce : World → Type 0
NoncesToClientOnce w =
    (i j : ℕ) (a b : Seal) → slice_get w.sealings i ≡ Some a → slice_get w.sealings j ≡ Some b → IsToClient a → IsOneNonce a b → i ≡ j

-- to the client over every run, tampered with or not
abbrev pub NoncesToClient : Type 0
NoncesToClient = (z : WorldSettings) (events : List ByteEvent) → NoncesToClientOnce (bytes_run z events (bytes_start z))

-- ---- in step: without tampering the values are those of a run of the model of values

-- a pick that can't be paid for goes out in neither
abbrev pub value_event : World → Event → Event
value_event w (Push k slotless pick) = Push k slotless (paid w k slotless pick)
value_event w e = e

unfoldable pub value_events : WorldSettings → World → List Event → List Event
value_events z w [] = []
value_events z w (e ∷ es) = value_event w e ∷ value_events z (bytes_happen z w (Plain e)) es

abbrev pub IsInStep : WorldSettings → List Event → Type 0
IsInStep z events = (plain_run z events).values ≡ run (value_events z (bytes_start z) events) (start (values_of z))

-- ---- each end hears what the other sent

-- the front of what goes up is heard as the message that it was made for, and its answer is that of the model of values
abbrev pub RequestsAreHeard : WorldSettings → World → Type 0
RequestsAreHeard z w =
    (k : ℕ) (b : List ℕ) (bs : List (List ℕ)) (x : Sent) (xs : List Sent) →
    (w.values.conns k).server_open ≡ true → (w.wires k).up ≡ b ∷ bs → (w.values.conns k).up ≡ x ∷ xs →
    (step_at z w k b).taken ≡ Some (record { message = x.message; answer = answer w.values x })

-- ---- behind a logon nothing is taken unsigned, nor unsealed where sealing is owed, but a SESSION_SETUP, an ECHO of SessionId 0,
-- and a NEGOTIATE, which no connection hears twice

abbrev pub IsGuarded : ServerEnd → Frame → Checked → Type 0
IsGuarded f x c =
    (x.sealed ≡ true) ⊎ (f.encrypts ≡ false) × (has_bit c.header.flags 8 ≡ true) × (signed_by f.keys c.raw ≡ true)
    ⊎ (is_setup c.header ≡ true) ⊎ (is_negotiate c.header ≡ true) ⊎ (is_probe c.header c.raw ≡ true)

abbrev pub FramesAreGuarded : Type 0
FramesAreGuarded =
    (f : ServerEnd) (frame : List ℕ) (x : Frame) (i : ℕ) (c : Checked) →
    check_frame f frame ≡ Ok x → slice_get x.messages i ≡ Some c → c.fault ≡ None → IsGuarded f x c

-- ---- the lists of both levels are as long as one another, so that an absent message is told of bytes, over every run

pub record AreAlong (w : World) : Type 0 where
  pub up : (k : ℕ) → length (w.wires k).up ≡ length (w.values.conns k).up
  pub down : (k : ℕ) → length (w.wires k).down ≡ length (w.values.conns k).down

abbrev pub ListsAreAlong : Type 0
ListsAreAlong = (z : WorldSettings) (events : List ByteEvent) → AreAlong (bytes_run z events (bytes_start z))
