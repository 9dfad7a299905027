-- The LOCK response (MS-SMB2 2.2.27).
use Rattle.std.specs.Prelude.{ℕ, List, [], ◌∷◌, Option}
use Rattle.spec_wire.specs.messages.Table.{Field, Num, Any, Stands, with_fields, AreWritable}
use Rattle.spec_wire.specs.messages.Fault.{◌or_else◌, fields_fault, size_fault}
use Rattle.spec_wire.specs.declared.messages.error.MessageError.{MessageError}
use Rattle.spec_wire.specs.declared.messages.file_message.LockResponse.{LockResponse}

-- The LOCK response (MS-SMB2 2.2.27): StructureSize, Reserved.
abbrev pub lock_response_table : LockResponse → List Field
lock_response_table v = Num 2 4 ∷ Any 2 ∷ []

-- m is a header and this response; other bytes may follow
abbrev pub SpellsLockResponse : List ℕ → LockResponse → Type 0
SpellsLockResponse m v = Stands m 64 (lock_response_table v)

-- the response that stands in m
abbrev pub lock_response_in : List ℕ → LockResponse
lock_response_in m = record {}

abbrev pub lock_response_fault : List ℕ → Option MessageError
lock_response_fault m = fields_fault m (lock_response_table (lock_response_in m)) or_else size_fault m 4

abbrev pub IsWritableLockResponse : LockResponse → Type 0
IsWritableLockResponse v = AreWritable (lock_response_table v)

abbrev pub lock_response_spelling : LockResponse → List ℕ
lock_response_spelling v = with_fields [] (lock_response_table v)
