-- Pieces that were written are read as they were.
use Rattle.std.proofs.Common.{◌≡◌, ℕ, ◌+◌, List, [], ◌∷◌, ◌++◌, length, refl, sym, ap, subst, ◌∙◌, arith, append_assoc, length-append}
use Rattle.std.proofs.lemmas.List.{append-nil}
use Rattle.std.proofs.lemmas.List.Elements.{All-head, All-tail}
use Rattle.spec_wire.specs.messages.Table.{Stands}
use Rattle.law_wire.proofs.messages.Rows.{table_again}
use Rattle.law_snapshots.specs.snapshots.Pieces.{SnapshotPiece}
use Rattle.journal_bytes.specs.record_bytes.Grammar.{behind_fields}
use Rattle.journal_bytes.specs.piece_bytes.Grammar.{piece_table, ArePieces, SpellsPieces, IsWritablePiece, AreWritablePieces}
use Rattle.journal_bytes.specs.piece_bytes.Grammar.{piece_spelling, pieces_spelling}
use Rattle.journal_bytes.proofs.record_bytes.Again.{length_written}
use Rattle.journal_bytes.proofs.record_bytes.Standing.{behind_front}

again_first : (p : SnapshotPiece) (ps : List SnapshotPiece) (front : List ℕ) (at : ℕ) → length front ≡ at → IsWritablePiece p
    → ArePieces ((front ++ piece_spelling p) ++ pieces_spelling ps) (behind_fields at (piece_table p))
    (length ((front ++ piece_spelling p) ++ pieces_spelling ps)) ps
    → ArePieces (front ++ pieces_spelling (p ∷ ps)) at (length (front ++ pieces_spelling (p ∷ ps))) (p ∷ ps)
again_first p ps front at e fit rest = (record { fields = here; kept = fit.kept }, there)
  where
    here : Stands (front ++ (piece_spelling p ++ pieces_spelling ps)) at (piece_table p)
    here = table_again (piece_table p) front (pieces_spelling ps) at e fit.fits

    there : ArePieces (front ++ (piece_spelling p ++ pieces_spelling ps)) (behind_fields at (piece_table p))
        (length (front ++ (piece_spelling p ++ pieces_spelling ps))) ps
    there = subst (λ (l : List ℕ). ArePieces l (behind_fields at (piece_table p)) (length l) ps)
        (append_assoc front (piece_spelling p) (pieces_spelling ps)) rest

-- how far a piece reaches that was written behind a front
pub size_behind_front : (p : SnapshotPiece) (front : List ℕ) (at : ℕ) → length front ≡ at → IsWritablePiece p
    → length (front ++ piece_spelling p) ≡ behind_fields at (piece_table p)
size_behind_front p front at e fit = length-append front (piece_spelling p) ∙ ap (λ (n : ℕ). length front + n)
    (length_written (piece_table p) [] fit.fits)
    ∙ sym (behind_front (length front) 0 (length front) (piece_table p) (omega arith))
    ∙ ap (λ (n : ℕ). behind_fields n (piece_table p)) e

again_behind : (ps : List SnapshotPiece) (front : List ℕ) (at : ℕ) → length front ≡ at → AreWritablePieces ps
    → ArePieces (front ++ pieces_spelling ps) at (length (front ++ pieces_spelling ps)) ps
again_behind [] front at e fit = sym e ∙ sym (ap length (append-nil front))
again_behind (p ∷ ps) front at e fit =
    let first : IsWritablePiece p = All-head IsWritablePiece p ps fit in
    again_first p ps front at e first (again_behind ps (front ++ piece_spelling p) (behind_fields at (piece_table p))
    (size_behind_front p front at e first) (All-tail IsWritablePiece p ps fit))

pub read_again : (ps : List SnapshotPiece) → AreWritablePieces ps → SpellsPieces (pieces_spelling ps) ps
read_again ps fit = again_behind ps [] 0 refl fit
