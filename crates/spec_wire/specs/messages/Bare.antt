-- Messages that tell nothing: LOGOFF, TREE_DISCONNECT and ECHO, requests and responses (MS-SMB2 2.2.7, 2.2.8, 2.2.11,
-- 2.2.12, 2.2.28, 2.2.29).
use Rattle.std.specs.Prelude.{ℕ, List, [], ◌∷◌, Option}
use Rattle.spec_wire.specs.messages.Table.{Field, Num, Any, Stands, with_fields}
use Rattle.spec_wire.specs.messages.Fault.{◌or_else◌, fields_fault, size_fault}
use Rattle.spec_wire.specs.declared.messages.error.MessageError.{MessageError}

-- StructureSize, Reserved
abbrev pub bare_table : List Field
bare_table = Num 2 4 ∷ Any 2 ∷ []

-- m is a header and such a message; other bytes may follow
abbrev pub SpellsBare : List ℕ → Type 0
SpellsBare m = Stands m 64 bare_table

abbrev pub bare_fault : List ℕ → Option MessageError
bare_fault m = fields_fault m bare_table or_else size_fault m 4

abbrev pub bare_spelling : List ℕ
bare_spelling = with_fields [] bare_table
