-- What the calls of a disk do to its bytes, and what a crash may leave between two syncs.
use Rattle.std.specs.Prelude.{◌≡◌, ◌⊎◌, ℕ, ◌+◌, ◌-◌, ◌<◌, ◌≤◌, List, ◌++◌, length, take, drop, replicate}

-- A read at a place filled the first n bytes of a buffer. It gives some byte where there is one and the buffer has room.
pub record ReadsAt (bytes : List ℕ) (at n : ℕ) (buffer : List ℕ) : Type 0 where
  pub bound : n ≤ length (drop at bytes)
  pub front : take n buffer ≡ take n (drop at bytes)
  pub progress : 0 < length buffer → at < length bytes → 0 < n

-- A write at a place puts its bytes over what is there and past the end. Zeros fill a gap before it.
pub record WritesAt (old : List ℕ) (at : ℕ) (bytes new : List ℕ) : Type 0 where
  pub within : at ≤ length old → new ≡ take at old ++ bytes ++ drop (at + length bytes) old
  pub behind : length old < at → 0 < length bytes → new ≡ old ++ replicate (at - length old) 0 ++ bytes
  pub nothing : length bytes ≡ 0 → new ≡ old

-- After a write of n bytes that a crash cuts short: any bytes in the range and past the old end, the same elsewhere.
pub record Torn (at n : ℕ) (old new : List ℕ) : Type 0 where
  pub before : (k : ℕ) → k ≤ at → k ≤ length old → take k new ≡ take k old
  pub after : drop (at + n) new ≡ drop (at + n) old
  pub no_shorter : length old ≤ length new

-- After a cut that isn't synced: some length between.
pub record CutShort (n : ℕ) (old new : List ℕ) : Type 0 where
  pub no_shorter : n ≤ length new ⊎ new ≡ old
  pub front : take (length new) old ≡ new

-- Each new outcome of a crash is an old outcome after a step.
abbrev pub Follows : (List ℕ → List ℕ → Type 0) → (List ℕ → Type 0) → (List ℕ → Type 0) → Type 0
Follows step old new = (c : List ℕ) → new c → (d : List ℕ) × old d × step d c

-- A crash leaves these bytes and nothing else.
abbrev pub Only : List ℕ → (List ℕ → Type 0) → Type 0
Only bytes outcomes = (c : List ℕ) → outcomes c → c ≡ bytes

-- Time goes on: a crash since t leaves what it might have left before, or what it may leave now.
pub record Elapses (before now : ℕ) (past since : ℕ → List ℕ → Type 0) (may_leave : List ℕ → Type 0) : Type 0 where
  pub later : before ≤ now
  pub nothing_else : (t : ℕ) (c : List ℕ) → t ≤ before → since t c → past t c ⊎ may_leave c
