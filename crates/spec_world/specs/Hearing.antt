-- What the server's end of a connection hears in a frame (MS-SMB2 3.3.5.2): its messages, each with the first fault that the
-- connection finds in it, or why the connection ends.
use Rattle.std.specs.Prelude.{ℕ, ◌==◌, nat_lt, Bool, true, false, not, ◌&&◌, ◌||◌, if◌then◌else◌, List, [], ◌∷◌, length, Option}
use Rattle.std.specs.Prelude.{Some, None, is_some, Result, Ok, Err}
use Rattle.std.specs.Str.{bytes_eq}
use Rattle.spec_wire.specs.messages.Places.{number, bytes_at}
use Rattle.spec_wire.specs.declared.messages.header.Header.{Header}
use Rattle.spec_exchange.specs.Status.{access_denied}
use Rattle.spec_exchange.specs.Commands.{has_bit}
use Rattle.spec_wire.specs.credits.Ids.{counted, outside}
use Rattle.spec_wire.specs.credits.Window.{HeldIds, after_take}
use Rattle.spec_crypto.specs.declared.sessions.material.Keys.{Keys}
use Rattle.spec_crypto.specs.sessions.Sealing.{protocol, opened}
use Rattle.spec_crypto.specs.sessions.Signing.{verifies}
use Rattle.spec_world.specs.Messages.{HeardMessage, messages_in}
use Rattle.spec_world.specs.Ends.{ServerEnd, ConnEnd, BadFrame, OutsideWindow, SecondNegotiate, Unsealable}

-- ---- a frame's messages, sealed or not

pub record FrameText : Type 0 where
  pub sealed : Bool
  pub messages : List HeardMessage

-- FD 'S' 'M' 'B' in front (2.2.41)
unfoldable pub begins_sealed : List ℕ → Bool
begins_sealed frame = bytes_eq (bytes_at 4 frame 0) protocol

-- Flags of a transform header of 3.1.1: 1, encrypted (2.2.41); with another value it is none (3.3.5.2.1.1)
abbrev pub is_encrypted : List ℕ → Bool
is_encrypted frame = number 2 frame 42 == 1

-- what a sealed frame holds under the connection's session
abbrev pub opened_by : Option Keys → List ℕ → Option (List ℕ)
opened_by None frame = None
opened_by (Some keys) frame =
    if keys.cipher == 0 then None
    else if is_encrypted frame then opened keys true frame
    else None

abbrev pub split_text : Bool → Option (List HeardMessage) → Result FrameText ConnEnd
split_text sealed None = Err BadFrame
split_text sealed (Some messages) = Ok (record { sealed = sealed; messages = messages })

abbrev pub opened_text : Option (List ℕ) → Result FrameText ConnEnd
opened_text None = Err Unsealable
opened_text (Some text) = split_text true (messages_in text)

-- A frame's message has at most 1,114,112 bytes. Before a connection has had a session it has at most 66,000, since a token has at
-- most 65,535 (this project's).
abbrev pub frame_limit : Option Keys → ℕ
frame_limit None = 66000
frame_limit (Some keys) = 1114112

abbrev pub is_too_long : Option Keys → List ℕ → Bool
is_too_long keys frame = nat_lt (frame_limit keys) (length frame)

abbrev pub text_of : Option Keys → List ℕ → Result FrameText ConnEnd
text_of keys frame =
    if is_too_long keys frame then Err BadFrame
    else if begins_sealed frame then opened_text (opened_by keys frame)
    else split_text false (messages_in frame)

-- ---- one message in its turn: the first cause for which it ends the connection

abbrev pub is_negotiate : Header → Bool
is_negotiate h = h.command == 0

abbrev pub is_setup : Header → Bool
is_setup h = h.command == 1

abbrev pub is_cancel : Header → Bool
is_cancel h = h.command == 12

-- the least of its ids that isn't held; a CANCEL takes none (3.3.5.2.3)
abbrev pub outside_of : HeldIds → Header → Option ℕ
outside_of w h = if is_cancel h then None else outside w.held h.message (counted h.charge)

abbrev pub window_behind : HeldIds → Header → HeldIds
window_behind w h = if is_cancel h then w else after_take h.message h.charge w

abbrev pub end_by_id : Option ℕ → Option ConnEnd
end_by_id None = None
end_by_id (Some id) = Some (OutsideWindow id)

-- NEGOTIATE comes first and once: until one is answered with success no other message is taken, and behind one no second
abbrev pub turn_end : ServerEnd → Header → Option ConnEnd
turn_end f h =
    if not (is_some f.greeting) && not (is_negotiate h) then Some BadFrame
    else if is_negotiate h && f.asked then Some SecondNegotiate
    else end_by_id (outside_of f.window h)

abbrev pub behind_turn : ServerEnd → Header → ServerEnd
behind_turn f h = record f { window = window_behind f.window h; asked = is_negotiate h || f.asked }

-- ---- its fault

abbrev pub signed_by : Option Keys → List ℕ → Bool
signed_by None m = false
signed_by (Some keys) m = verifies keys.signing m

-- sealed, or signed where no sealing is owed (3.3.5.2.1.1, 3.3.5.2.4)
abbrev pub is_protected : ServerEnd → Bool → HeardMessage → Bool
is_protected f sealed x = sealed || (not f.encrypts && (has_bit x.header.flags 8 && signed_by f.keys x.bytes))

-- An ECHO of SessionId 0 asks whether the connection lives. Its SessionId is the one that was heard: a related one's bytes keep it,
-- where its header takes over another.
abbrev pub is_probe : Header → List ℕ → Bool
is_probe h m = h.command == 13 && number 8 m 40 == 0

abbrev pub owes_nothing : HeardMessage → Bool
owes_nothing x = is_negotiate x.header || (is_setup x.header || is_probe x.header x.bytes)

-- A SESSION_SETUP owes nothing here, nor does NEGOTIATE, nor an ECHO of SessionId 0, which no session can sign (this project's).
-- What stands behind a SESSION_SETUP in its frame is refused, another one too, since its keys aren't there yet (this project's).
-- What stands behind a message that was refused here is refused too: else one that anybody put in its front, as a FLUSH of another
-- open, would tell a signed related one what to act on (this project's).
abbrev pub fault_of : ServerEnd → Bool → Bool → HeardMessage → Option ℕ
fault_of f sealed barred x =
    if barred then Some access_denied
    else if owes_nothing x then None
    else if is_protected f sealed x then None
    else Some access_denied

-- ---- a checked message: raw as it was heard, bytes with the ids that a related one takes over; a frame's first one takes none

pub record Checked : Type 0 where
  pub header : Header
  pub raw : List ℕ
  pub bytes : List ℕ
  pub related : Bool
  pub fault : Option ℕ

abbrev pub checked_as : ServerEnd → Bool → Bool → Bool → HeardMessage → Checked
checked_as f sealed barred first x = record {
  header = x.header;
  raw = x.bytes;
  bytes = x.bytes;
  related = not first && has_bit x.header.flags 4;
  fault = fault_of f sealed barred x;
}

-- The related flag on a frame's first message breaks its form (3.3.5.2.7.2).
abbrev pub is_misplaced : Checked → Bool
is_misplaced c = not c.related && has_bit c.header.flags 4

-- ---- the messages of a frame in order, and the end behind them

pub record Frame : Type 0 where
  pub server_end : ServerEnd
  pub sealed : Bool
  pub messages : List Checked

abbrev pub in_front : Checked → Result Frame ConnEnd → Result Frame ConnEnd
in_front c (Err e) = Err e
in_front c (Ok x) = Ok (record x { messages = c ∷ x.messages })

abbrev pub if_in_turn : Option ConnEnd → Result Frame ConnEnd → Result Frame ConnEnd
if_in_turn (Some e) rest = Err e
if_in_turn None rest = rest

abbrev pub bars : ServerEnd → Bool → Bool → HeardMessage → Bool
bars f sealed barred x = barred || (is_setup x.header || is_some (fault_of f sealed barred x))

unfoldable pub checked_behind : ServerEnd → Bool → Bool → List HeardMessage → Result Frame ConnEnd
checked_behind f sealed barred [] = Ok (record { server_end = f; sealed = sealed; messages = [] })
checked_behind f sealed barred (x ∷ xs) =
    if_in_turn (turn_end f x.header)
    (in_front (checked_as f sealed barred false x)
    (checked_behind (behind_turn f x.header) sealed (bars f sealed barred x) xs))

-- a frame has one message at least
abbrev pub checked_in : ServerEnd → Bool → List HeardMessage → Result Frame ConnEnd
checked_in f sealed [] = Err BadFrame
checked_in f sealed (x ∷ xs) =
    if_in_turn (turn_end f x.header)
    (in_front (checked_as f sealed false true x) (checked_behind (behind_turn f x.header) sealed (bars f sealed false x) xs))

abbrev pub checked_text : ServerEnd → Result FrameText ConnEnd → Result Frame ConnEnd
checked_text f (Err e) = Err e
checked_text f (Ok t) = checked_in f t.sealed t.messages

-- the whole of a frame, before any of its messages is carried out
abbrev pub check_frame : ServerEnd → List ℕ → Result Frame ConnEnd
check_frame f frame = checked_text f (text_of f.keys frame)
