-- What the functions that read a part of a record answer.
use Rattle.std.specs.Prelude.{◌≡◌, ℕ, ◌+◌, ◌*◌, ◌/◌, ◌<◌, ◌≤◌, List, [], ◌∷◌, ◌++◌, length, Result, Ok, Err, ⊤, IsUtf8}
use Rattle.spec_wire.specs.messages.Table.{Field, Num, Raw, Stands}
use Rattle.spec_wire.specs.messages.Utf16.{utf16}
use Rattle.wire_bytes.specs.byte_lists.Spot.{Spot}
use Rattle.wire_bytes.specs.declared.byte_lists.short.Short.{Short}
use Rattle.journal_bytes.specs.record_bytes.Grammar.{StandsRecord, behind_fields, record_table, origin_table, text_table}
use Rattle.journal_bytes.specs.declared.record_bytes.fault.Fault.{Fault}
use Rattle.journal_bytes.specs.declared.record_bytes.fault.Fault.TheVariants.{Memory, Bad}
use Rattle.journal_bytes.specs.declared.record_bytes.reading.Found.{Found}
use Rattle.journal_bytes.specs.declared.record_bytes.value.Record.{Record}
use Rattle.journal_bytes.specs.declared.record_bytes.variable.OpenFields.{OpenFields}
use Rattle.journal_bytes.specs.declared.record_bytes.variable.CreateFields.{CreateFields}
use Rattle.journal_bytes.specs.declared.record_bytes.variable.DeleteFields.{DeleteFields}
use Rattle.journal_bytes.specs.declared.record_bytes.variable.WriteFields.{WriteFields}
use Rattle.journal_bytes.specs.declared.record_bytes.variable.RenameFields.{RenameFields}
use Rattle.journal_bytes.specs.declared.record_bytes.variable.LockFields.{LockFields}

-- A step over fields: they stand where the cursor was, and it is behind them; or they don't fit, where they take so many bytes.
abbrev pub StepsOver : {X : Type 0} → (X → List Field) → ℕ → Spot → Spot → Result X Short → Type 0
StepsOver table size old new (Ok x) = Stands old.bytes old.at (table x) × (new ≡ record {
  bytes = old.bytes;
  at = behind_fields old.at (table x);
})
StepsOver table size old new (Err e) = length old.bytes < old.at + size

-- the text that bytes spell, or none does
abbrev pub ReadsText : List ℕ → Result (List ℕ) Fault → Type 0
ReadsText bytes (Ok text) = (utf16 text ≡ bytes) × IsUtf8 text
ReadsText bytes (Err Bad) = (text : List ℕ) → IsUtf8 text → utf16 text ≡ bytes → ⊥
ReadsText bytes (Err Memory) = ⊤

-- the record that bytes begin with and where it ends, or they begin with none
abbrev pub ReadsRecord : ℕ → List ℕ → Result Found Fault → Type 0
ReadsRecord version m (Ok f) = StandsRecord version m 0 f.record × (f.end ≡ behind_fields 0 (record_table version f.record))
    × (f.end ≤ length m) × (0 < f.end)
ReadsRecord version m (Err Bad) = (r : Record) → StandsRecord version m 0 r → ⊥
ReadsRecord version m (Err Memory) = ⊤

-- a record of a kind that has always the same size
abbrev pub ReadsFixed : List ℕ → ℕ → Result Record Short → Type 0
ReadsFixed m size (Ok r) = ((version : ℕ) → StandsRecord version m 0 r
    × (size ≡ behind_fields 0 (record_table version r))) × (size ≤ length m)
ReadsFixed m size (Err e) = length m < size

-- fields that begin the bytes, or don't fit where they take so many bytes
abbrev pub ReadsFields : {X : Type 0} → (X → List Field) → List ℕ → ℕ → Result X Short → Type 0
ReadsFields table m size (Ok x) = Stands m 0 (table x)
ReadsFields table m size (Err e) = length m < size

-- behind the kind, up to the byte that tells whether an open was made
abbrev pub create_fields_table : CreateFields → List Field
create_fields_table v = origin_table v.origin
    ++ (Num 4 v.action ∷ Num 8 v.file ∷ (text_table v.path.now
    ++ (Num 4 v.attributes ∷ Num 1 v.directory ∷ Num 8 v.time ∷ [])))

-- behind that byte, up to the timeout
abbrev pub open_fields_table : OpenFields → List Field
open_fields_table v = Num 8 v.id ∷ Raw 16 v.client ∷ Raw 16 v.guid ∷ (text_table v.user.now
    ++ (Num 4 v.access ∷ Num 4 v.share ∷ Num 4 v.options ∷ []))

abbrev pub write_fields_table : WriteFields → List Field
write_fields_table v =
    Num 1 3 ∷ (origin_table v.origin ++ (Num 8 v.file ∷ Num 8 v.at ∷ Num 8 v.time ∷ Num 4 (length v.bytes.now) ∷ Raw
    (length v.bytes.now) v.bytes.now ∷ []))

abbrev pub delete_fields_table : DeleteFields → List Field
delete_fields_table v = Num 1 6 ∷ (origin_table v.origin ++ (Num 8 v.file ∷ Num 1 v.marked ∷ []))

abbrev pub rename_fields_table : RenameFields → List Field
rename_fields_table v = Num 1 7 ∷ (origin_table v.origin ++ (Num 8 v.file ∷ Num 8 v.replaced ∷ text_table v.path.now))

abbrev pub lock_fields_table : LockFields → List Field
lock_fields_table v =
    Num 1 9 ∷ (origin_table v.origin ++ (Num 8 v.id ∷ Num 1 v.index ∷ Num 1 v.number ∷ Num 4 v.status ∷ Num 2
    (length v.elements.now / 24) ∷ Raw (24 * (length v.elements.now / 24)) v.elements.now ∷ []))

-- a part of a record that stands where the cursor was, and the cursor is behind it; or no such part stands there
abbrev pub TakesPart : {V : Type 0} → (V → List Field) → (V → Type 0) → Spot → Spot → Result V Fault → Type 0
TakesPart table Is old new (Ok v) = Stands old.bytes old.at (table v) × Is v × (new ≡ record {
  bytes = old.bytes;
  at = behind_fields old.at (table v);
})
TakesPart {V} table Is old new (Err Bad) = (v : V) → Stands old.bytes old.at (table v) → Is v → ⊥
TakesPart table Is old new (Err Memory) = ⊤
