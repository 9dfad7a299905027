-- The journal's records as bytes, in versions 1 and 2 of the journal (this project's). A text is UTF-16 (RFC 2781), an
-- element of a lock is that of a LOCK request (MS-SMB2 2.2.26.1).
use Rattle.std.specs.Prelude.{◌≡◌, ℕ, ◌+◌, ◌*◌, ◌/◌, ◌%◌, ◌<◌, ◌==◌, Bool, true, false, if◌then◌else◌, List, [], ◌∷◌, ◌++◌}
use Rattle.std.specs.Prelude.{length, Option, Some, None, Result, Ok, Err, ⊤, IsUtf8, All, flat_map}
use Rattle.spec_wire.specs.messages.Table.{Field, Num, Raw, Any, Stands, with_fields, AreWritable}
use Rattle.spec_wire.specs.messages.Utf16.{utf16}
use Rattle.spec_exchange.specs.declared.values.Basic.{Basic}
use Rattle.spec_exchange.specs.declared.values.Origin.{Origin}
use Rattle.journal_bytes.specs.declared.record_bytes.fault.RecordError.{RecordError}
use Rattle.journal_bytes.specs.declared.record_bytes.fault.RecordError.TheVariants.{Memory, BadRecord}
use Rattle.journal_bytes.specs.declared.record_bytes.value.NewOpen.{NewOpen}
use Rattle.journal_bytes.specs.declared.record_bytes.value.Record.{Record}
use Rattle.journal_bytes.specs.declared.record_bytes.value.Record.TheVariants.{Epoch, Create, Write, SetEnd, SetBasic, SetDelete}
use Rattle.journal_bytes.specs.declared.record_bytes.value.Record.TheVariants.{Rename, Remove, Lock, Shut, Version, Expire}

-- ---- the fields

abbrev pub flag : Bool → ℕ
flag false = 0
flag true = 1

abbrev pub origin_table : Origin → List Field
origin_table o = Num 8 o.session ∷ Num 4 o.connection ∷ Num 8 o.message ∷ []

-- the bytes of a text behind their number
abbrev pub text_table : List ℕ → List Field
text_table units = Num 2 (length units) ∷ Raw (length units) units ∷ []

-- an open's timeout, which version 1 doesn't have
abbrev pub timeout_table : ℕ → ℕ → List Field
timeout_table version timeout = if version == 1 then [] else Num 4 timeout ∷ []

abbrev pub opened_table : ℕ → Option NewOpen → List Field
opened_table version None = Num 1 0 ∷ []
opened_table version (Some n) = Num 1 1 ∷ Num 8 n.id ∷ Raw 16 n.client ∷ Raw 16 n.guid ∷ (text_table (utf16 n.user)
    ++ (Num 4 n.access ∷ Num 4 n.share ∷ Num 4 n.options ∷ timeout_table version n.timeout))

abbrev pub basic_table : Basic → List Field
basic_table b = Num 8 b.created ∷ Num 8 b.accessed ∷ Num 8 b.written ∷ Num 8 b.changed ∷ Num 4 b.attributes ∷ []

abbrev pub kind : Record → ℕ
kind (Epoch number) = 1
kind (Create origin action file path attributes directory time opened) = 2
kind (Write origin file at time bytes) = 3
kind (SetEnd origin file size time) = 4
kind (SetBasic origin file basic) = 5
kind (SetDelete origin file marked) = 6
kind (Rename origin file replaced path) = 7
kind (Remove origin file) = 8
kind (Lock origin id index number status elements) = 9
kind (Shut origin id) = 10
kind (Version number) = 11
kind (Expire origin id) = 12

-- what stands behind the kind
abbrev pub record_fields : ℕ → Record → List Field
record_fields version (Epoch number) = Num 4 number ∷ []
record_fields version (Create origin action file path attributes directory time opened) = origin_table origin
    ++ (Num 4 action ∷ Num 8 file ∷ (text_table (utf16 path)
    ++ (Num 4 attributes ∷ Num 1 (flag directory) ∷ Num 8 time ∷ opened_table version opened)))
record_fields version (Write origin file at time bytes) = origin_table origin
    ++ (Num 8 file ∷ Num 8 at ∷ Num 8 time ∷ Num 4 (length bytes) ∷ Raw (length bytes) bytes ∷ [])
record_fields version (SetEnd origin file size time) = origin_table origin ++ (Num 8 file ∷ Num 8 size ∷ Num 8 time ∷ [])
record_fields version (SetBasic origin file basic) = origin_table origin ++ (Num 8 file ∷ basic_table basic)
record_fields version (SetDelete origin file marked) = origin_table origin ++ (Num 8 file ∷ Num 1 (flag marked) ∷ [])
record_fields version (Rename origin file replaced path) = origin_table origin ++ (Num 8 file ∷ Num 8 replaced ∷ text_table (utf16 path))
record_fields version (Remove origin file) = origin_table origin ++ (Num 8 file ∷ [])
record_fields version (Lock origin id index number status elements) = origin_table origin
    ++ (Num 8 id ∷ Num 1 index ∷ Num 1 number ∷ Num 4 status ∷ Num 2 (length elements / 24) ∷ Raw
    (24 * (length elements / 24)) elements ∷ [])
record_fields version (Shut origin id) = origin_table origin ++ (Num 8 id ∷ [])
record_fields version (Version number) = Num 4 number ∷ []
record_fields version (Expire origin id) = origin_table origin ++ (Num 8 id ∷ [])

abbrev pub record_table : ℕ → Record → List Field
record_table version r = Num 1 (kind r) ∷ record_fields version r

-- ---- what no field tells: a text is UTF-8, the timeout of an open in version 1 is a minute, the version that is told is 2

abbrev pub IsRecordTimeout : ℕ → ℕ → Type 0
IsRecordTimeout version timeout = version ≡ 1 → timeout ≡ 60000

abbrev pub OpenIsKept : ℕ → Option NewOpen → Type 0
OpenIsKept version None = ⊤
OpenIsKept version (Some n) = IsUtf8 n.user × IsRecordTimeout version n.timeout

abbrev pub IsKept : ℕ → Record → Type 0
IsKept version (Create origin action file path attributes directory time opened) = IsUtf8 path × OpenIsKept version opened
IsKept version (Rename origin file replaced path) = IsUtf8 path
IsKept version (Version number) = number ≡ 2
IsKept version (Epoch number) = ⊤
IsKept version (Write origin file at time bytes) = ⊤
IsKept version (SetEnd origin file size time) = ⊤
IsKept version (SetBasic origin file basic) = ⊤
IsKept version (SetDelete origin file marked) = ⊤
IsKept version (Remove origin file) = ⊤
IsKept version (Lock origin id index number status elements) = ⊤
IsKept version (Shut origin id) = ⊤
IsKept version (Expire origin id) = ⊤

-- ---- one record and a body

-- the record stands in m at a place
pub record StandsRecord (version : ℕ) (m : List ℕ) (at : ℕ) (r : Record) : Type 0 where
  pub fields : Stands m at (record_table version r)
  pub kept : IsKept version r

-- the place behind fields
abbrev pub behind_fields : ℕ → List Field → ℕ
behind_fields at [] = at
behind_fields at (Num w n ∷ fs) = behind_fields (at + w) fs
behind_fields at (Raw w b ∷ fs) = behind_fields (at + w) fs
behind_fields at (Any w ∷ fs) = behind_fields (at + w) fs

-- the version behind a record, and behind several
abbrev pub next_version : ℕ → Record → ℕ
next_version version (Version number) = number
next_version version (Epoch number) = version
next_version version (Create origin action file path attributes directory time opened) = version
next_version version (Write origin file at time bytes) = version
next_version version (SetEnd origin file size time) = version
next_version version (SetBasic origin file basic) = version
next_version version (SetDelete origin file marked) = version
next_version version (Rename origin file replaced path) = version
next_version version (Remove origin file) = version
next_version version (Lock origin id index number status elements) = version
next_version version (Shut origin id) = version
next_version version (Expire origin id) = version

abbrev pub version_behind : ℕ → List Record → ℕ
version_behind version [] = version
version_behind version (r ∷ rs) = version_behind (next_version version r) rs

-- records stand in m one after another, from a place on up to an end
abbrev pub AreRecords : ℕ → List ℕ → ℕ → ℕ → List Record → Type 0
AreRecords version m at end [] = at ≡ end
AreRecords version m at end (r ∷ rs) = StandsRecord version m at r × AreRecords (next_version version r) m
    (behind_fields at (record_table version r)) end rs

-- a body is these records
abbrev pub SpellsRecords : ℕ → List ℕ → List Record → Type 0
SpellsRecords version m rs = AreRecords version m 0 (length m) rs

-- the first break: records stand up to this place, and there stands none
pub record BreaksRecords (version : ℕ) (m : List ℕ) (place : ℕ) : Type 0 where
  pub front : List Record
  pub stands : AreRecords version m 0 place front
  pub inside : place < length m
  pub none : (r : Record) → StandsRecord (version_behind version front) m place r → ⊥

-- what a reader answered
abbrev pub ReadsRecords : {X : Type 0} → (X → List Record) → ℕ → List ℕ → Result X RecordError → Type 0
ReadsRecords items version m (Ok x) = SpellsRecords version m (items x)
ReadsRecords items version m (Err Memory) = ⊤
ReadsRecords items version m (Err (BadRecord place)) = BreaksRecords version m place

-- ---- written, in version 2

-- What the writer's caller sees to: texts, bytes and elements fit the fields that tell how many they are, elements are
-- whole ones of 24 bytes, and the version told is 2.
abbrev pub TextFits : List ℕ → Type 0
TextFits text = length (utf16 text) < 65536

abbrev pub OpenFits : Option NewOpen → Type 0
OpenFits None = ⊤
OpenFits (Some n) = TextFits n.user

abbrev pub WrittenRecordFits : Record → Type 0
WrittenRecordFits (Epoch number) = ⊤
WrittenRecordFits (Create origin action file path attributes directory time opened) = TextFits path × OpenFits opened
WrittenRecordFits (Write origin file at time bytes) = length bytes < 4294967296
WrittenRecordFits (SetEnd origin file size time) = ⊤
WrittenRecordFits (SetBasic origin file basic) = ⊤
WrittenRecordFits (SetDelete origin file marked) = ⊤
WrittenRecordFits (Rename origin file replaced path) = TextFits path
WrittenRecordFits (Remove origin file) = ⊤
WrittenRecordFits (Lock origin id index number status elements) = (length elements / 24 < 65536) × (length elements % 24 ≡ 0)
WrittenRecordFits (Shut origin id) = ⊤
WrittenRecordFits (Version number) = number ≡ 2
WrittenRecordFits (Expire origin id) = ⊤

abbrev pub WrittenRecordsFit : List Record → Type 0
WrittenRecordsFit rs = All WrittenRecordFits rs

-- a record that reads back: its numbers fit their fields too
pub record IsWritableRecord (r : Record) : Type 0 where
  pub fits : AreWritable (record_table 2 r)
  pub kept : IsKept 2 r

abbrev pub record_spelling : Record → List ℕ
record_spelling r = with_fields [] (record_table 2 r)

abbrev pub AreWritableRecords : List Record → Type 0
AreWritableRecords rs = All IsWritableRecord rs

abbrev pub records_spelling : List Record → List ℕ
records_spelling rs = flat_map record_spelling rs

-- ---- what each value of the record types keeps: its numbers fit their fields, a GUID has 16 bytes, a text is UTF-8

abbrev pub open_numbers : Option NewOpen → List Field
open_numbers None = []
open_numbers (Some n) = Num 8 n.id ∷ Raw 16 n.client ∷ Raw 16 n.guid ∷ Num 4 n.access ∷ Num 4 n.share ∷ Num 4 n.options
    ∷ Num 4 n.timeout ∷ []

abbrev pub record_numbers : Record → List Field
record_numbers (Epoch number) = Num 4 number ∷ []
record_numbers (Create origin action file path attributes directory time opened) = origin_table origin
    ++ (Num 4 action ∷ Num 8 file ∷ Num 4 attributes ∷ Num 8 time ∷ open_numbers opened)
record_numbers (Write origin file at time bytes) = origin_table origin ++ (Num 8 file ∷ Num 8 at ∷ Num 8 time ∷ [])
record_numbers (SetEnd origin file size time) = origin_table origin ++ (Num 8 file ∷ Num 8 size ∷ Num 8 time ∷ [])
record_numbers (SetBasic origin file basic) = origin_table origin ++ (Num 8 file ∷ basic_table basic)
record_numbers (SetDelete origin file marked) = origin_table origin ++ (Num 8 file ∷ [])
record_numbers (Rename origin file replaced path) = origin_table origin ++ (Num 8 file ∷ Num 8 replaced ∷ [])
record_numbers (Remove origin file) = origin_table origin ++ (Num 8 file ∷ [])
record_numbers (Lock origin id index number status elements) = origin_table origin
    ++ (Num 8 id ∷ Num 1 index ∷ Num 1 number ∷ Num 4 status ∷ [])
record_numbers (Shut origin id) = origin_table origin ++ (Num 8 id ∷ [])
record_numbers (Version number) = Num 4 number ∷ []
record_numbers (Expire origin id) = origin_table origin ++ (Num 8 id ∷ [])

abbrev pub HasUser : Option NewOpen → Type 0
HasUser None = ⊤
HasUser (Some n) = IsUtf8 n.user

abbrev pub HasTexts : Record → Type 0
HasTexts (Epoch number) = ⊤
HasTexts (Create origin action file path attributes directory time opened) = IsUtf8 path × HasUser opened
HasTexts (Write origin file at time bytes) = ⊤
HasTexts (SetEnd origin file size time) = ⊤
HasTexts (SetBasic origin file basic) = ⊤
HasTexts (SetDelete origin file marked) = ⊤
HasTexts (Rename origin file replaced path) = IsUtf8 path
HasTexts (Remove origin file) = ⊤
HasTexts (Lock origin id index number status elements) = ⊤
HasTexts (Shut origin id) = ⊤
HasTexts (Version number) = ⊤
HasTexts (Expire origin id) = ⊤

pub record IsInRange (r : Record) : Type 0 where
  pub numbers : AreWritable (record_numbers r)
  pub texts : HasTexts r

abbrev pub AreInRange : List Record → Type 0
AreInRange rs = All IsInRange rs
