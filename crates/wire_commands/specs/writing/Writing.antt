-- What a writer answers.
use Rattle.std.specs.Prelude.{◌≡◌, ℕ, List, ◌++◌, Result, Ok, Err, ⊤}
use Rattle.spec_exchange.specs.State as says
use Rattle.spec_commands.specs.Infos.{allocation, attributes_of}
use Rattle.spec_wire.specs.messages.Places.{le}
use Rattle.spec_wire.specs.messages.Directory.{DirectoryEntryValue}
use Rattle.wire_commands.specs.declared.writing.fault.WriteError.{WriteError}
use Rattle.wire_commands.specs.declared.writing.fault.WriteError.TheVariants.{Memory, Unwritable}

-- why a part wasn't written: it doesn't fit, or memory ran out
abbrev pub IsBodyRefused : Type 0 → WriteError → Type 0
IsBodyRefused fits Unwritable = fits → ⊥
IsBodyRefused fits Memory = ⊤

-- the bytes, where all fits, or why there are none
abbrev pub BodyWrites : Type 0 → List ℕ → Result (List ℕ) WriteError → Type 0
BodyWrites fits spelling (Ok bytes) = fits × (bytes ≡ spelling)
BodyWrites fits spelling (Err e) = IsBodyRefused fits e

-- bytes put behind others, where all fits, or why they weren't
abbrev pub BodyPuts : {X : Type 0} → Type 0 → List ℕ → List ℕ → List ℕ → Result X WriteError → Type 0
BodyPuts fits more old new (Ok u) = fits × (new ≡ old ++ more)
BodyPuts fits more old new (Err e) = IsBodyRefused fits e

-- an entry that tells all of a file, its AllocationSize as far as 8 bytes hold it
pub record FullEntry (v : DirectoryEntryValue) (info : says.Info) (number : ℕ) (units : List ℕ) : Type 0 where
  pub created : v.creation_time ≡ info.times.created
  pub accessed : v.last_access_time ≡ info.times.accessed
  pub written : v.last_write_time ≡ info.times.written
  pub changed : v.change_time ≡ info.times.changed
  pub size : v.end_of_file ≡ info.size
  pub allocation : le 8 v.allocation_size ≡ le 8 (allocation info.size)
  pub attributes : v.file_attributes ≡ attributes_of info
  pub file : v.file_id ≡ number
  pub name : v.name ≡ units
