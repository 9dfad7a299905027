-- Messages on a stream (MS-SMB2 2.1): a zero byte, the length in three bytes, the highest first, and the message.
use Rattle.std.specs.Prelude.{◌≡◌, ℕ, ◌+◌, ◌*◌, ◌/◌, ◌%◌, ◌==◌, nat_lt, not, if◌then◌else◌, List, [], ◌∷◌, ◌++◌, length, get_or, drop}
use Rattle.spec_wire.specs.messages.Places.{bytes_at}
use Rattle.spec_wire.specs.declared.messages.refusal.FrameError.{FrameError}
use Rattle.spec_wire.specs.declared.messages.refusal.FrameError.TheVariants.{BadLead, TooLong}

-- a message as its frame
unfoldable pub frame_spelling : List ℕ → List ℕ
frame_spelling message = 0 ∷ length message / 65536 ∷ length message / 256 % 256 ∷ length message % 256 ∷ message

-- the length that the frame at the front tells
abbrev pub told_length : List ℕ → ℕ
told_length stream = 65536 * get_or stream 1 0 + 256 * get_or stream 2 0 + get_or stream 3 0

-- What stands at the front of a stream: no whole frame and no refusal yet; a whole frame's message, and the bytes
-- behind it; a refusal.
pub data Front : Type 0 where
  Waits : Front
  Whole : (message rest : List ℕ) → Front
  Breaks : (refusal : FrameError) → Front

-- A frame's message has at most 1,114,112 bytes (this project's).
unfoldable pub front : List ℕ → Front
front stream =
    if length stream == 0 then Waits
    else if not (get_or stream 0 0 == 0) then Breaks (BadLead (get_or stream 0 0))
    else if nat_lt (length stream) 4 then Waits
    else if nat_lt 1114112 (told_length stream) then Breaks (TooLong (told_length stream))
    else if nat_lt (length stream) (4 + told_length stream) then Waits
    else Whole (bytes_at (told_length stream) stream 4) (drop (4 + told_length stream) stream)

-- these messages stand at the front of a stream, and this behind them
abbrev pub Frames : List ℕ → List (List ℕ) → List ℕ → Type 0
Frames stream [] rest = stream ≡ rest
Frames stream (m ∷ ms) rest = (later : List ℕ) × (front stream ≡ Whole m later) × Frames later ms rest

-- A call of one who takes frames out of pieces: a piece was fed; a message was handed out; there was none yet; a
-- refusal was told.
pub data Call : Type 0 where
  Fed : (piece : List ℕ) → Call
  Gave : (message : List ℕ) → Call
  Waited : Call
  Refused : (refusal : FrameError) → Call

-- what a call does to the bytes that are left
abbrev pub Happens : List ℕ → Call → List ℕ → Type 0
Happens old (Fed piece) new = new ≡ old ++ piece
Happens old (Gave message) new = front old ≡ Whole message new
Happens old Waited new = (front old ≡ Waits) × (new ≡ old)
Happens old (Refused e) new = (front old ≡ Breaks e) × (new ≡ old)

abbrev pub Calls : List ℕ → List Call → List ℕ → Type 0
Calls old [] new = new ≡ old
Calls old (c ∷ cs) new = (later : List ℕ) × Happens old c later × Calls later cs new

-- all that was fed, and all that was handed out
unfoldable pub fed : List Call → List ℕ
fed [] = []
fed (Fed piece ∷ cs) = piece ++ fed cs
fed (Gave message ∷ cs) = fed cs
fed (Waited ∷ cs) = fed cs
fed (Refused e ∷ cs) = fed cs

unfoldable pub given : List Call → List (List ℕ)
given [] = []
given (Fed piece ∷ cs) = given cs
given (Gave message ∷ cs) = message ∷ given cs
given (Waited ∷ cs) = given cs
given (Refused e ∷ cs) = given cs
