-- The list of contexts of a NEGOTIATE (MS-SMB2 2.2.3.1). Each begins at a multiple of 8, counted from the header:
-- ContextType, DataLength, Reserved, then so many bytes.
use Rattle.std.specs.Prelude.{◌≡◌, ℕ, zero, suc, ◌+◌, ◌-◌, ◌%◌, ◌≤◌, ◌⊎◌, ◌||◌, ◌==◌, nat_lt, not, if◌then◌else◌, List}
use Rattle.std.specs.Prelude.{[], ◌∷◌, ◌++◌, length, Option, Some, None}
use Rattle.spec_wire.specs.messages.Places.{le, number, bytes_at, gap_to_8}
use Rattle.spec_wire.specs.declared.messages.error.MessageError.{MessageError}
use Rattle.spec_wire.specs.declared.messages.error.MessageError.TheVariants.{BadOffset, BadCount}
use Rattle.spec_wire.specs.declared.messages.error.Part.TheVariants as parts

pub record Context : Type 0 where
  pub kind : ℕ
  pub bytes : List ℕ

-- where the context that begins behind a place stands, and where it ends
abbrev pub context_place : ℕ → ℕ
context_place behind = behind + gap_to_8 behind

abbrev pub context_end : List ℕ → ℕ → ℕ
context_end m at = at + 8 + number 2 m (at + 2)

-- where so many contexts behind a place end
unfoldable pub contexts_end : List ℕ → ℕ → ℕ → ℕ
contexts_end m behind zero = behind
contexts_end m behind (suc n) = contexts_end m (context_end m (context_place behind)) n

-- these contexts
unfoldable pub contexts_in : List ℕ → ℕ → ℕ → List Context
contexts_in m behind zero = []
contexts_in m behind (suc n) =
    record {
      kind = number 2 m (context_place behind);
      bytes = bytes_at (number 2 m (context_place behind + 2)) m (context_place behind + 8);
    }
    ∷ contexts_in m (context_end m (context_place behind)) n

-- a context written behind other bytes, and a list of them
abbrev pub with_context : List ℕ → Context → List ℕ
with_context out c = ((((out ++ le (gap_to_8 (length out)) 0) ++ le 2 c.kind) ++ le 2 (length c.bytes)) ++ le 4 0) ++ c.bytes

unfoldable pub with_contexts : List ℕ → List Context → List ℕ
with_contexts out [] = out
with_contexts out (c ∷ cs) = with_contexts (with_context out c) cs

-- how many bytes so many contexts take that begin at a place
abbrev pub contexts_size : List ℕ → ℕ → ℕ → ℕ
contexts_size m at count = contexts_end m at count - at

-- The contexts of a message, of which the fixed part tells place and count: these are their bytes, and where there
-- are any, they stand behind the fixed part at a multiple of 8 and inside the message. Where the count is 0 there
-- are none, whatever the place.
pub record AreContexts (m : List ℕ) (at count fixed : ℕ) (part : List ℕ) : Type 0 where
  pub bytes : part ≡ bytes_at (contexts_size m at count) m at
  pub place : (count ≡ 0) ⊎ (fixed ≤ at) × (at % 8 ≡ 0) × (contexts_end m at count ≤ length m)

-- the place isn't behind the fixed part, a multiple of 8 and inside the message; or the contexts end behind it
unfoldable pub contexts_fault : List ℕ → ℕ → ℕ → ℕ → Option MessageError
contexts_fault m at count fixed =
    if count == 0 then None
    else if nat_lt at fixed || nat_lt (length m) at || not (at % 8 == 0) then Some (BadOffset parts.Contexts)
    else if nat_lt (length m) (contexts_end m at count) then Some (BadCount parts.Contexts)
    else None

-- the bytes are so many contexts, from a multiple of 8 on
abbrev pub IsContextList : List ℕ → ℕ → Type 0
IsContextList bytes count = contexts_end bytes 0 count ≡ length bytes

-- Where contexts stand behind a part that ends at a place: at the next multiple of 8. Where there are none, nothing
-- stands for them and their place is told as 0.
abbrev pub contexts_gap : ℕ → ℕ → ℕ
contexts_gap count behind = if count == 0 then 0 else gap_to_8 behind

abbrev pub contexts_told : ℕ → ℕ → ℕ
contexts_told count behind = if count == 0 then 0 else behind + gap_to_8 behind
