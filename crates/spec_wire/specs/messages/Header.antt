-- The header of a message (MS-SMB2 2.2.1).
use Rattle.std.specs.Prelude.{◌≡◌, ℕ, ◌<◌, ◌≤◌, List, [], ◌∷◌, length, Result, Ok, Err}
use Rattle.spec_wire.specs.messages.Places.{number, bytes_at}
use Rattle.spec_wire.specs.messages.Table.{Field, Num, Raw, Any, Stands, with_fields, AreWritable}
use Rattle.spec_wire.specs.declared.messages.header.Header.{Header}
use Rattle.spec_wire.specs.declared.messages.error.HeaderError.{HeaderError}
use Rattle.spec_wire.specs.declared.messages.error.HeaderError.TheVariants as errors

-- FE 'S' 'M' 'B'
abbrev pub protocol : List ℕ
protocol = 0xfe ∷ 0x53 ∷ 0x4d ∷ 0x42 ∷ []

abbrev pub header_table : Header → List Field
header_table h =
    Raw 4 protocol ∷ Num 2 64 ∷ Num 2 h.charge ∷ Num 4 h.status ∷ Num 2 h.command ∷ Num 2 h.credits ∷ Num 4 h.flags
    ∷ Num 4 h.next ∷ Num 8 h.message ∷ Any 4 ∷ Num 4 h.tree ∷ Num 8 h.session ∷ Raw 16 h.signature ∷ []

-- m begins with this header
abbrev pub SpellsHeader : List ℕ → Header → Type 0
SpellsHeader m h = Stands m 0 (header_table h)

-- the first break of m, in the order of the refusals
abbrev pub BreaksHeader : List ℕ → HeaderError → Type 0
BreaksHeader m errors.Short = length m < 64
BreaksHeader m (errors.BadProtocol p) = (64 ≤ length m) × (p ≡ bytes_at 4 m 0) × (p ≡ protocol → ⊥)
BreaksHeader m (errors.BadSize n) = (64 ≤ length m) × (bytes_at 4 m 0 ≡ protocol) × (n ≡ number 2 m 4) × (n ≡ 64 → ⊥)
BreaksHeader m errors.Memory = ⊥
BreaksHeader m (errors.BadNext at) = ⊥

-- what a reader answered: the header that m begins with, or the first break
abbrev pub ReadsHeader : List ℕ → Result Header HeaderError → Type 0
ReadsHeader m (Ok h) = SpellsHeader m h
ReadsHeader m (Err e) = BreaksHeader m e

abbrev pub IsWritableHeader : Header → Type 0
IsWritableHeader h = AreWritable (header_table h)

-- the canonical spelling, 64 bytes
abbrev pub header_spelling : Header → List ℕ
header_spelling h = with_fields [] (header_table h)

-- In an asynchronous message the AsyncId stands where Reserved and TreeId stand else (MS-SMB2 2.2.1.1).
abbrev pub async_id : List ℕ → ℕ
async_id m = number 8 m 32
