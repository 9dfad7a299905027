-- The LOCK request (MS-SMB2 2.2.26).
use Rattle.std.specs.Prelude.{ℕ, ◌*◌, ◌/◌, ◌<◌, List, [], ◌∷◌, ◌++◌, length, Option}
use Rattle.spec_wire.specs.messages.Places.{number, bytes_at}
use Rattle.spec_wire.specs.messages.Table.{Field, Num, Raw, Any, Stands, with_fields, AreWritable, IsCounted}
use Rattle.spec_wire.specs.messages.Fault.{◌or_else◌, fields_fault, size_fault, count_fault}
use Rattle.spec_wire.specs.declared.messages.error.MessageError.{MessageError}
use Rattle.spec_wire.specs.declared.messages.error.Part.TheVariants.{Locks}
use Rattle.spec_wire.specs.declared.messages.message.LockElement.{LockElement}

pub record LockRequestValue : Type 0 where
  pub lock_sequence : ℕ
  pub file_id : List ℕ
  pub locks : List ℕ

-- the fixed part, with the count of the elements: StructureSize, LockCount, LockSequence, FileId
abbrev pub lock_request_table : LockRequestValue → ℕ → List Field
lock_request_table v count = Num 2 48 ∷ Num 2 count ∷ Num 4 v.lock_sequence ∷ Raw 16 v.file_id ∷ []

-- m is a header and this request; other bytes may follow
pub record SpellsLockRequest (m : List ℕ) (v : LockRequestValue) : Type 0 where
  pub fixed : Stands m 64 (lock_request_table v (number 2 m 66))
  pub locks : IsCounted m 88 (number 2 m 66) 24 v.locks

-- the request that stands in m
abbrev pub lock_request_in : List ℕ → LockRequestValue
lock_request_in m = record { lock_sequence = number 4 m 68; file_id = bytes_at 16 m 72; locks = bytes_at (number 2 m 66 * 24) m 88 }

abbrev pub lock_request_fault : List ℕ → Option MessageError
lock_request_fault m =
    fields_fault m (lock_request_table (lock_request_in m) (number 2 m 66))
    or_else size_fault m 48
    or_else count_fault m 88 (number 2 m 66) 24 Locks

-- what is written behind a header: the elements stand behind the fixed part
abbrev pub lock_request_whole : LockRequestValue → ℕ → List Field
lock_request_whole v count = lock_request_table v count ++ Raw (count * 24) v.locks ∷ []

-- the number of elements
abbrev pub lock_count : LockRequestValue → ℕ
lock_count v = length v.locks / 24

-- the elements are whole, there is one at least, and their count fits
pub record IsWritableLockRequest (v : LockRequestValue) : Type 0 where
  pub fits : AreWritable (lock_request_whole v (lock_count v))
  pub some : 0 < lock_count v

abbrev pub lock_request_spelling : LockRequestValue → List ℕ
lock_request_spelling v = with_fields [] (lock_request_whole v (lock_count v))

-- an element (MS-SMB2 2.2.26.1): Offset, Length, Flags, Reserved
abbrev pub lock_element_table : LockElement → List Field
lock_element_table e = Num 8 e.offset ∷ Num 8 e.length ∷ Num 4 e.flags ∷ Any 4 ∷ []

abbrev pub lock_element_spelling : LockElement → List ℕ
lock_element_spelling e = with_fields [] (lock_element_table e)
