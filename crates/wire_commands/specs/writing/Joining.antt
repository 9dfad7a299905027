-- Messages that a sender joins into one frame by NextCommand, each but the last padded to a multiple of 8 (MS-SMB2 2.2.1, 3.2.4.1.4).
use Rattle.std.specs.Prelude.{ℕ, Bool, if◌then◌else◌, ◌+◌, ◌<◌, ◌^◌, List, [], ◌∷◌, ◌++◌, length}
use Rattle.spec_wire.specs.messages.Places.{le, gap_to_8}
use Rattle.spec_wire.specs.messages.Chain.{chain_spelling}
use Rattle.spec_wire.specs.messages.Header.{IsWritableHeader, header_spelling}
use Rattle.spec_wire.specs.declared.messages.header.Header.{Header}
use Rattle.wire_commands.specs.declared.writing.joining.Unjoined.{Unjoined}
use Rattle.spec_wire.specs.declared.messages.header.Span.{Span}

-- a message whose NextCommand isn't told yet
pub record JoinedMessage : Type 0 where
  pub header : Header
  pub body : List ℕ

abbrev pub message_of : Unjoined → JoinedMessage
message_of m = record { header = m.header; body = m.body.now }

abbrev pub header_before : Header → ℕ → Header
header_before h next = record h { next = next }

abbrev pub joined_message_spelling : JoinedMessage → ℕ → List ℕ
joined_message_spelling m next = header_spelling (header_before m.header next) ++ m.body

abbrev pub message_size : JoinedMessage → ℕ
message_size m = 64 + length m.body

-- where the next message begins behind one of this size
abbrev pub next_place : JoinedMessage → ℕ
next_place m = message_size m + gap_to_8 (message_size m)

abbrev pub joined_spelling : List JoinedMessage → List ℕ
joined_spelling ms = chain_spelling joined_message_spelling message_size ms

-- the places of the messages, the padding before the next one included
abbrev pub spans_from : ℕ → List JoinedMessage → List Span
spans_from at [] = []
spans_from at (m ∷ []) = record { start = at; end = at + message_size m } ∷ []
spans_from at (m ∷ n ∷ ms) = record { start = at; end = at + next_place m } ∷ spans_from (at + next_place m) (n ∷ ms)

-- the header of each message fits its fields, and the size of each but the last NextCommand
abbrev pub AreJoinable : List JoinedMessage → Type 0
AreJoinable [] = Unit {0}
AreJoinable (m ∷ []) = IsWritableHeader (header_before m.header 0)
AreJoinable (m ∷ n ∷ ms) = IsWritableHeader (header_before m.header 0) × (next_place m < 256 ^ 4) × AreJoinable (n ∷ ms)

-- a message written where others follow, or none
abbrev pub joined_if : Bool → JoinedMessage → List ℕ
joined_if more m = if more then joined_message_spelling m (next_place m) ++ le (gap_to_8 (message_size m)) 0 else
    joined_message_spelling m 0

-- the size of each message but the last fits NextCommand
abbrev pub AreSmall : List JoinedMessage → Type 0
AreSmall [] = Unit {0}
AreSmall (m ∷ []) = Unit {0}
AreSmall (m ∷ n ∷ ms) = (next_place m < 2 ^ 32) × AreSmall (n ∷ ms)
