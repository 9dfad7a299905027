-- A closed gate with any bytes behind it, and what a crash leaves while an entry is put there.
use Rattle.std.specs.Prelude.{◌≡◌, ◌⊎◌, ℕ, ◌+◌, ◌≤◌, List, ◌∷◌, ◌++◌, length}
use Rattle.base_outside.specs.streams.Disk.{Only}
use Rattle.spec_wire.specs.journal.Grammar.{IsClosed}

-- The bytes have this front, then a closed gate at this place, and any bytes.
pub record ClosedAt (gate : ℕ) (front : List ℕ) (shut : ℕ) (rest bytes : List ℕ) : Type 0 where
  pub file : bytes ≡ front ++ shut ∷ rest
  pub place : length front ≡ gate
  pub closed : IsClosed shut

-- the gate is closed, with any bytes behind it
pub record StaysClosed (front bytes : List ℕ) : Type 0 where
  pub gate : ℕ
  pub rest : List ℕ
  pub file : bytes ≡ front ++ gate ∷ rest
  pub closed : IsClosed gate

-- the gate is closed, or it is open and all of the entry stands behind it, with any bytes behind that
abbrev pub IsClosedOrOpened : List ℕ → List ℕ → List ℕ → Type 0
IsClosedOrOpened front behind bytes = StaysClosed front bytes ⊎ ((rest : List ℕ) × (bytes ≡ front ++ 1 ∷ (behind ++ rest)))

-- The bytes have this front, then a closed gate at this place, an entry, and a closed gate at the next place with any bytes behind it.
pub record WaitsAt (gate next : ℕ) (front entry : List ℕ) (shut last : ℕ) (rest bytes : List ℕ) : Type 0 where
  pub file : bytes ≡ front ++ shut ∷ (entry ++ last ∷ rest)
  pub place : length front ≡ gate
  pub end : gate + 1 + length entry ≡ next
  pub closed : IsClosed shut
  pub behind : IsClosed last

-- a closed gate stands behind the front, or behind the entry that waited there
abbrev pub IsClosedBeforeOrBehind : List ℕ → List ℕ → List ℕ → Type 0
IsClosedBeforeOrBehind front entry bytes = StaysClosed front bytes ⊎ StaysClosed (front ++ 1 ∷ entry) bytes

-- the same, or that gate too is open and all of the next entry stands behind it, with any bytes behind that
abbrev pub IsClosedOrNextOpened : List ℕ → List ℕ → List ℕ → List ℕ → Type 0
IsClosedOrNextOpened front entry behind bytes = StaysClosed front bytes ⊎ IsClosedOrOpened (front ++ 1 ∷ entry) behind bytes

-- at most 9 bytes: the magic and one gate at most
abbrev pub IsEntryShort : List ℕ → Type 0
IsEntryShort bytes = length bytes ≤ 9

-- a disk that is taken as new, with nothing on it that waits for a sync
pub record IsEntryNew (bytes : List ℕ) (outcomes : List ℕ → Type 0) : Type 0 where
  pub short : length bytes ≤ 9
  pub durable : Only bytes outcomes
