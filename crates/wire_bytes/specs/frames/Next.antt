-- What the calls on frames answer.
use Rattle.std.specs.Prelude.{◌≡◌, ℕ, ◌+◌, ◌<◌, ◌≤◌, min, List, length, drop, Option, Some, None, Result, Ok, Err, ⊤}
use Rattle.spec_wire.specs.messages.Frames.{Waits, Whole, Breaks, front, frame_spelling}
use Rattle.spec_wire.specs.declared.messages.refusal.FrameError.{FrameError}
use Rattle.spec_wire.specs.declared.messages.refusal.FrameError.TheVariants as errors
use Rattle.wire_bytes.specs.declared.frames.deframer.Frame.{Frame}

-- The frame at the front of the bytes that are left was handed out; or they stay, since there is none yet, since there
-- is a refusal, or where memory runs out.
abbrev pub FrameNextAnswers : List ℕ → List ℕ → Result (Option Frame) FrameError → Type 0
FrameNextAnswers old new (Ok (Some f)) = front old ≡ Whole f.bytes new
FrameNextAnswers old new (Ok None) = (front old ≡ Waits) × (new ≡ old)
FrameNextAnswers old new (Err errors.Memory) = new ≡ old
FrameNextAnswers old new (Err (errors.BadLead lead)) = (front old ≡ Breaks (errors.BadLead lead)) × (new ≡ old)
FrameNextAnswers old new (Err (errors.TooLong n)) = (front old ≡ Breaks (errors.TooLong n)) × (new ≡ old)

-- a message as its frame, or a length that is above the limit
abbrev pub IsFrameOf : List ℕ → Result (List ℕ) FrameError → Type 0
IsFrameOf message (Ok frame) = (length message ≤ 1114112) × (frame ≡ frame_spelling message)
IsFrameOf message (Err errors.Memory) = ⊤
IsFrameOf message (Err (errors.BadLead lead)) = ⊥
IsFrameOf message (Err (errors.TooLong n)) = (1114112 < length message) × (n ≡ min (length message) 4294967295)

-- the message at the front of a stream, if it is whole
abbrev pub FirstIs : List ℕ → Result (Option Frame) FrameError → Type 0
FirstIs stream (Ok (Some f)) = (4 + length f.bytes ≤ length stream) × (front stream ≡ Whole f.bytes (drop (4 + length f.bytes) stream))
FirstIs stream (Ok None) = front stream ≡ Waits
FirstIs stream (Err errors.Memory) = ⊤
FirstIs stream (Err (errors.BadLead lead)) = front stream ≡ Breaks (errors.BadLead lead)
FirstIs stream (Err (errors.TooLong n)) = front stream ≡ Breaks (errors.TooLong n)
