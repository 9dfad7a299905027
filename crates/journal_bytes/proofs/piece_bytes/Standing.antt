-- Pieces that stand, seen from another place, and where they end.
use Rattle.std.proofs.Common.{◌≡◌, ℕ, ◌+◌, ◌≤◌, List, [], ◌∷◌, ◌++◌, length, drop, sym, ap, subst, ◌∙◌, arith}
use Rattle.law_snapshots.specs.snapshots.Pieces.{SnapshotPiece}
use Rattle.journal_bytes.specs.record_bytes.Grammar.{behind_fields}
use Rattle.journal_bytes.specs.piece_bytes.Grammar.{piece_table, piece_fields, StandsPiece, ArePieces}
use Rattle.journal_bytes.proofs.record_bytes.Standing.{ends_inside, ends_later, stands_behind, stands_ahead, behind_front}

pub piece_behind : (m : List ℕ) (k : ℕ) (p : SnapshotPiece) → k ≤ length m → StandsPiece (drop k m) 0 p → StandsPiece m k p
piece_behind m k p inside s = record { fields = stands_behind m k 0 k (piece_table p) inside (omega arith) s.fields; kept = s.kept }

pub piece_ahead : (m : List ℕ) (k : ℕ) (p : SnapshotPiece) → k ≤ length m → StandsPiece m k p → StandsPiece (drop k m) 0 p
piece_ahead m k p inside s = record { fields = stands_ahead m k 0 k (piece_table p) inside (omega arith) s.fields; kept = s.kept }

pub end_behind : (k : ℕ) (p : SnapshotPiece) (end : ℕ) → end ≡ behind_fields 0 (piece_table p) → k + end ≡ behind_fields k (piece_table p)
end_behind k p end e = ap (λ (n : ℕ). k + n) e ∙ sym (behind_front k 0 k (piece_table p) (omega arith))

-- one piece more
pub one_more : (m : List ℕ) (at end next : ℕ) (ps : List SnapshotPiece) (p : SnapshotPiece) → ArePieces m at end ps → StandsPiece m end p
    → next ≡ behind_fields end (piece_table p) → ArePieces m at next (ps ++ p ∷ [])
one_more m at end next [] p are stands is =
    (subst (λ (x : ℕ). StandsPiece m x p) (sym are) stands, ap (λ (x : ℕ). behind_fields x (piece_table p)) are ∙ sym is)
one_more m at end next (q ∷ ps) p are stands is = (are.0, one_more m (behind_fields at (piece_table q)) end next ps p are.1 stands is)

pub inside_piece : (m : List ℕ) (at : ℕ) (p : SnapshotPiece) → StandsPiece m at p → at + 1 ≤ length m
inside_piece m at p s = let end = ends_inside m (at + 1) (piece_fields p) s.fields.1 in
    let later = ends_later (at + 1) (piece_fields p) in omega (arith, end, later)
