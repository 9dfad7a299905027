-- The messages of a frame, by their headers (MS-SMB2 2.2.1, 3.2.4.1.4): what `spec_wire::messages` says as relations, as functions.
use Rattle.std.specs.Prelude.{ℕ, zero, suc, ◌+◌, ◌%◌, ◌==◌, nat_le, Bool, ◌&&◌, not, if◌then◌else◌, List, [], ◌∷◌, ◌++◌, length, take}
use Rattle.std.specs.Prelude.{drop, replicate, Option, Some, None, option_map}
use Rattle.std.specs.Str.{bytes_eq}
use Rattle.spec_wire.specs.messages.Places.{number, bytes_at}
use Rattle.spec_wire.specs.messages.Header.{protocol, header_spelling}
use Rattle.spec_wire.specs.declared.messages.header.Header.{Header}

-- bytes begin with a header
unfoldable pub has_header : List ℕ → Bool
has_header m = nat_le 64 (length m) && (bytes_eq (bytes_at 4 m 0) protocol && (number 2 m 4 == 64))

unfoldable pub header_in : List ℕ → Header
header_in m = record {
  charge = number 2 m 6;
  status = number 4 m 8;
  command = number 2 m 12;
  credits = number 2 m 14;
  flags = number 4 m 16;
  next = number 4 m 20;
  message = number 8 m 24;
  tree = number 4 m 36;
  session = number 8 m 40;
  signature = bytes_at 16 m 48;
}

-- a message as it was heard: its header, and all its bytes from there on, what pads it to the next one included
pub record HeardMessage : Type 0 where
  pub header : Header
  pub bytes : List ℕ

abbrev pub heard_in : List ℕ → HeardMessage
heard_in m = record { header = header_in m; bytes = m }

-- NextCommand leads to another message: a multiple of 8 behind the header, with room for one more
abbrev pub leads_on : List ℕ → ℕ → Bool
leads_on m next = (next % 8 == 0) && (nat_le 64 next && nat_le (next + 64) (length m))

-- the messages that NextCommand joins, at most n; none where a place is no message's
unfoldable pub messages_from : ℕ → List ℕ → Option (List HeardMessage)
messages_from zero m = None
messages_from (suc n) m =
    if not (has_header m) then None
    else if number 4 m 20 == 0 then Some (heard_in m ∷ [])
    else if leads_on m (number 4 m 20)
    then option_map (λ ms. heard_in (take (number 4 m 20) m) ∷ ms) (messages_from n (drop (number 4 m 20) m))
    else None

-- there are no more of them than bytes
unfoldable pub messages_in : List ℕ → Option (List HeardMessage)
messages_in frame = messages_from (length frame) frame

-- ---- written

-- the Signature of a message that isn't signed yet
abbrev pub unsigned_field : List ℕ
unsigned_field = replicate 16 0

-- a message: its header, and what stands behind it
unfoldable pub message_spelling : Header → List ℕ → List ℕ
message_spelling h body = header_spelling h ++ body
