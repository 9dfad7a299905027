-- The pieces of a snapshot as bytes (this project's). A body that begins with a byte of 64 or more has pieces, any other has records.
-- A text is UTF-16 (RFC 2781), a GUID's first byte is the lowest of its number.
use Rattle.std.specs.Prelude.{◌≡◌, ℕ, ◌<◌, true, List, [], ◌∷◌, ◌++◌, length, Option, Some, None, Result, Ok, Err}
use Rattle.std.specs.Prelude.{⊤, IsUtf8, All, flat_map}
use Rattle.spec_wire.specs.messages.Table.{Field, Num, Raw, Stands, with_fields, AreWritable}
use Rattle.spec_wire.specs.messages.Utf16.{utf16}
use Rattle.spec_exchange.specs.State.{Open}
use Rattle.law_snapshots.specs.snapshots.Pieces.{SnapshotPiece, BasePiece, FilePiece, BytesPiece, OpenPiece, SlotPiece, RangePiece, GuidPiece}
use Rattle.journal_bytes.specs.record_bytes.Grammar.{flag, text_table, basic_table, behind_fields}
use Rattle.journal_bytes.specs.declared.piece_bytes.fault.PieceError.{PieceError}
use Rattle.journal_bytes.specs.declared.piece_bytes.fault.PieceError.TheVariants.{Memory, BadPiece}

-- ---- the fields

abbrev pub kind : SnapshotPiece → ℕ
kind (BasePiece version epoch given next times) = 64
kind (FilePiece f path is_dir pending basic size stored) = 65
kind (BytesPiece f at bytes) = 66
kind (OpenPiece o row) = 67
kind (SlotPiece o index number status) = 68
kind (RangePiece r) = 69
kind (GuidPiece client create) = 70

-- the CreateGuid of an open, which each open of a snapshot has
abbrev pub create_guid : Option ℕ → ℕ
create_guid None = 0
create_guid (Some g) = g

-- what stands behind the kind: first what has always one size, so that each number has a place of its own, and a text or bytes last
abbrev pub piece_fields : SnapshotPiece → List Field
piece_fields (BasePiece version epoch given next times) = Num 4 version ∷ Num 4 epoch ∷ Num 4 given ∷ Num 8 next ∷ basic_table times
piece_fields (FilePiece f path is_dir pending basic size stored) = Num 8 f ∷ Num 1 (flag is_dir) ∷ Num 1 (flag pending)
    ∷ (basic_table basic ++ (Num 8 size ∷ Num 8 stored ∷ text_table (utf16 path)))
piece_fields (BytesPiece f at bytes) = Num 8 f ∷ Num 8 at ∷ Num 4 (length bytes) ∷ Raw (length bytes) bytes ∷ []
piece_fields (OpenPiece o row) = Num 8 o ∷ Num 8 row.file ∷ Num 16 row.client_guid ∷ Num 16 (create_guid row.create_guid) ∷ Num 4 row.access
    ∷ Num 4 row.share ∷ Num 4 row.options ∷ Num 4 row.action ∷ Num 4 row.timeout ∷ text_table (utf16 row.user)
piece_fields (SlotPiece o index number status) = Num 8 o ∷ Num 1 index ∷ Num 1 number ∷ Num 4 status ∷ []
piece_fields (RangePiece r) = Num 8 r.owner ∷ Num 8 r.at ∷ Num 8 r.length ∷ Num 1 (flag r.exclusive) ∷ []
piece_fields (GuidPiece client create) = Num 16 client ∷ Num 16 create ∷ []

abbrev pub piece_table : SnapshotPiece → List Field
piece_table p = Num 1 (kind p) ∷ piece_fields p

-- ---- what no field tells: a text is UTF-8, and an open of a snapshot is persistent and has a CreateGuid

abbrev pub HasGuid : Option ℕ → Type 0
HasGuid None = ⊥
HasGuid (Some g) = ⊤

abbrev pub OpenIsPersistent : Open → Type 0
OpenIsPersistent row = (row.persistent ≡ true) × HasGuid row.create_guid × IsUtf8 row.user

abbrev pub PieceIsKept : SnapshotPiece → Type 0
PieceIsKept (BasePiece version epoch given next times) = ⊤
PieceIsKept (FilePiece f path is_dir pending basic size stored) = IsUtf8 path
PieceIsKept (BytesPiece f at bytes) = ⊤
PieceIsKept (OpenPiece o row) = OpenIsPersistent row
PieceIsKept (SlotPiece o index number status) = ⊤
PieceIsKept (RangePiece r) = ⊤
PieceIsKept (GuidPiece client create) = ⊤

-- ---- one piece and a body

-- the piece stands in m at a place
pub record StandsPiece (m : List ℕ) (at : ℕ) (p : SnapshotPiece) : Type 0 where
  pub fields : Stands m at (piece_table p)
  pub kept : PieceIsKept p

-- pieces stand in m one after another, from a place on up to an end
abbrev pub ArePieces : List ℕ → ℕ → ℕ → List SnapshotPiece → Type 0
ArePieces m at end [] = at ≡ end
ArePieces m at end (p ∷ ps) = StandsPiece m at p × ArePieces m (behind_fields at (piece_table p)) end ps

-- a body is these pieces
abbrev pub SpellsPieces : List ℕ → List SnapshotPiece → Type 0
SpellsPieces m ps = ArePieces m 0 (length m) ps

-- the first break: pieces stand up to this place, and there stands none
pub record BreaksPieces (m : List ℕ) (place : ℕ) : Type 0 where
  pub front : List SnapshotPiece
  pub stands : ArePieces m 0 place front
  pub inside : place < length m
  pub none : (p : SnapshotPiece) → StandsPiece m place p → ⊥

-- what a reader answered
abbrev pub ReadsPieces : {X : Type 0} → (X → List SnapshotPiece) → List ℕ → Result X PieceError → Type 0
ReadsPieces pieces m (Ok x) = SpellsPieces m (pieces x)
ReadsPieces pieces m (Err Memory) = ⊤
ReadsPieces pieces m (Err (BadPiece place)) = BreaksPieces m place

-- ---- written

-- a piece that reads back: its numbers fit their fields, and a text or bytes the field that tells how many they are
pub record IsWritablePiece (p : SnapshotPiece) : Type 0 where
  pub fits : AreWritable (piece_table p)
  pub kept : PieceIsKept p

abbrev pub piece_spelling : SnapshotPiece → List ℕ
piece_spelling p = with_fields [] (piece_table p)

abbrev pub AreWritablePieces : List SnapshotPiece → Type 0
AreWritablePieces ps = All IsWritablePiece ps

abbrev pub pieces_spelling : List SnapshotPiece → List ℕ
pieces_spelling ps = flat_map piece_spelling ps

-- a piece was put behind bytes
abbrev pub IsPut : List ℕ → SnapshotPiece → List ℕ → Type 0
IsPut old p new = (new ≡ with_fields old (piece_table p)) × IsWritablePiece p
