-- Messages of one frame, which NextCommand joins (MS-SMB2 2.2.1, 3.2.4.1.4).
use Rattle.std.specs.Prelude.{◌≡◌, ℕ, ◌+◌, ◌%◌, ◌≤◌, List, [], ◌∷◌, ◌++◌, length, drop, Result, Ok, Err, ⊤}
use Rattle.spec_wire.specs.messages.Header.{SpellsHeader, BreaksHeader}
use Rattle.spec_wire.specs.declared.messages.header.Header.{Header}
use Rattle.spec_wire.specs.declared.messages.header.Span.{Span}
use Rattle.spec_wire.specs.declared.messages.error.HeaderError.{HeaderError}
use Rattle.spec_wire.specs.declared.messages.error.HeaderError.TheVariants as errors

-- a header stands at a place of a frame
abbrev pub HasHeader : List ℕ → ℕ → Header → Type 0
HasHeader frame at h = SpellsHeader (drop at frame) h

-- NextCommand leads from a message to another one: it is a multiple of 8, it passes the header, and it leaves room
-- for one more
abbrev pub LeadsOn : List ℕ → ℕ → ℕ → Type 0
LeadsOn frame at next = (next % 8 ≡ 0) × (64 ≤ next) × (at + next + 64 ≤ length frame)

-- a message that NextCommand ends
abbrev pub IsJoined : List ℕ → Span → Type 0
IsJoined frame s = (h : Header) × HasHeader frame s.start h × LeadsOn frame s.start h.next × (s.end ≡ s.start + h.next)

-- joined messages, each behind the one before it
abbrev pub AreJoined : List ℕ → ℕ → List Span → ℕ → Type 0
AreJoined frame from [] to = from ≡ to
AreJoined frame from (s ∷ ss) to = (s.start ≡ from) × IsJoined frame s × AreJoined frame s.end ss to

-- the last message: its NextCommand is 0, and it takes the rest
abbrev pub IsLast : List ℕ → Span → Type 0
IsLast frame s = (h : Header) × HasHeader frame s.start h × (h.next ≡ 0) × (s.end ≡ length frame)

-- the messages of a frame
pub record SpellsCompound (frame : List ℕ) (messages : List Span) : Type 0 where
  pub joined : List Span
  pub last : Span
  pub are_joined : AreJoined frame 0 joined last.start
  pub is_last : IsLast frame last
  pub whole : messages ≡ joined ++ last ∷ []

-- what keeps a place from being a message's: its header doesn't read, or its NextCommand leads nowhere
abbrev pub BreaksAt : List ℕ → ℕ → HeaderError → Type 0
BreaksAt frame at errors.Memory = ⊤
BreaksAt frame at errors.Short = BreaksHeader (drop at frame) errors.Short
BreaksAt frame at (errors.BadProtocol p) = BreaksHeader (drop at frame) (errors.BadProtocol p)
BreaksAt frame at (errors.BadSize n) = BreaksHeader (drop at frame) (errors.BadSize n)
BreaksAt frame at (errors.BadNext place) =
    (place ≡ at) × ((h : Header) × HasHeader frame at h × (h.next ≡ 0 → ⊥) × (LeadsOn frame at h.next → ⊥))

-- the first break of a frame, behind the messages that join
pub record BreaksCompound (frame : List ℕ) (e : HeaderError) : Type 0 where
  pub joined : List Span
  pub at : ℕ
  pub are_joined : AreJoined frame 0 joined at
  pub breaks : BreaksAt frame at e

-- what a reader answered
abbrev pub ReadsCompound : List ℕ → Result (List Span) HeaderError → Type 0
ReadsCompound frame (Ok messages) = SpellsCompound frame messages
ReadsCompound frame (Err e) = BreaksCompound frame e
