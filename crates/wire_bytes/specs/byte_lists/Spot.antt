-- A cursor as all its bytes and a place in them, and what a step over some bytes did.
use Rattle.std.specs.Prelude.{◌≡◌, ℕ, ◌+◌, ◌<◌, ◌≤◌, List, length, Result, Ok, Err}
use Rattle.spec_wire.specs.messages.Places.{number}
use Rattle.wire_bytes.specs.declared.byte_lists.short.Short.{Short}

pub record Spot : Type 0 where
  pub bytes : List ℕ
  pub at : ℕ

abbrev pub moved : Spot → ℕ → Spot
moved s w = record { bytes = s.bytes; at = s.at + w }

-- A step over w bytes: it gave what `Is` says and moved on, or there were too few bytes and the cursor stays.
abbrev pub SpotSteps : {X : Type 0} → (X → Type 0) → ℕ → Spot → Spot → Result X Short → Type 0
SpotSteps Is w old new (Ok x) = (old.at + w ≤ length old.bytes) × Is x × (new ≡ moved old w)
SpotSteps Is w old new (Err e) = (length old.bytes < old.at + w) × (e.at ≡ old.at) × (new ≡ old)

-- a step that gave the number of the next w bytes
abbrev pub Gets : ℕ → Spot → Spot → Result ℕ Short → Type 0
Gets w old new r = SpotSteps (λ x. x ≡ number w old.bytes old.at) w old new r
