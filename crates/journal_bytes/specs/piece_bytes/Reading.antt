-- What the functions that read one piece answer.
use Rattle.std.specs.Prelude.{◌≡◌, ℕ, ◌<◌, ◌≤◌, List, length, Result, Ok, Err, ⊤, IsUtf8}
use Rattle.spec_wire.specs.messages.Table.{Stands}
use Rattle.spec_wire.specs.messages.Utf16.{utf16}
use Rattle.law_snapshots.specs.snapshots.Pieces.{SnapshotPiece}
use Rattle.journal_bytes.specs.record_bytes.Grammar.{behind_fields, text_table}
use Rattle.journal_bytes.specs.piece_bytes.Grammar.{StandsPiece, piece_table}
use Rattle.journal_bytes.specs.piece_bytes.Meaning.{piece_of}
use Rattle.journal_bytes.specs.declared.record_bytes.fault.Fault.{Fault}
use Rattle.journal_bytes.specs.declared.record_bytes.fault.Fault.TheVariants.{Memory, Bad}
use Rattle.journal_bytes.specs.declared.piece_bytes.found.FoundPiece.{FoundPiece}

-- the text that stands at a place behind its length, or none does
abbrev pub ReadsTextAt : List ℕ → ℕ → Result (List ℕ) Fault → Type 0
ReadsTextAt m at (Ok text) = Stands m at (text_table (utf16 text)) × IsUtf8 text
ReadsTextAt m at (Err Bad) = (text : List ℕ) → IsUtf8 text → Stands m at (text_table (utf16 text)) → ⊥
ReadsTextAt m at (Err Memory) = ⊤

-- the piece that bytes begin with and where it ends, or they begin with none
abbrev pub ReadsPiece : List ℕ → Result FoundPiece Fault → Type 0
ReadsPiece m (Ok f) = StandsPiece m 0 (piece_of f.piece) × (f.end ≡ behind_fields 0 (piece_table (piece_of f.piece)))
    × (f.end ≤ length m) × (0 < f.end)
ReadsPiece m (Err Bad) = (p : SnapshotPiece) → StandsPiece m 0 p → ⊥
ReadsPiece m (Err Memory) = ⊤
