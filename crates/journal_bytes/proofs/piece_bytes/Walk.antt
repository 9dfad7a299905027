-- A walk over a body, piece by piece.
use Rattle.std.proofs.Common.{◌≡◌, ℕ, ◌+◌, ◌-◌, ◌<◌, ◌≤◌, List, [], ◌∷◌, ◌++◌, length, take, drop, Ok, Err, sym, ap, subst, ◌∙◌, arith}
use Rattle.std.proofs.Common.{length-drop}
use Rattle.std.proofs.lemmas.Grind.{common_steps}
use Rattle.std.proofs.lemmas.List.{map-append}
use Rattle.law_snapshots.specs.snapshots.Pieces.{SnapshotPiece}
use Rattle.journal_bytes.specs.record_bytes.Grammar.{behind_fields}
use Rattle.journal_bytes.specs.piece_bytes.Grammar.{piece_table, StandsPiece, ArePieces, SpellsPieces, BreaksPieces}
use Rattle.journal_bytes.specs.piece_bytes.Meaning.{piece_of, pieces_of}
use Rattle.journal_bytes.specs.piece_bytes.Reading.{ReadsPiece}
use Rattle.journal_bytes.specs.declared.record_bytes.fault.Fault.{Fault}
use Rattle.journal_bytes.specs.declared.record_bytes.fault.Fault.TheVariants.{Bad}
use Rattle.journal_bytes.specs.declared.piece_bytes.found.FoundPiece.{FoundPiece}
use Rattle.journal_bytes.specs.declared.piece_bytes.value.Piece.{Piece}
use Rattle.journal_bytes.proofs.piece_bytes.Standing.{piece_behind, piece_ahead, end_behind, one_more}

-- these pieces stand up to a place
pub record Walked (m : List ℕ) (at : ℕ) (ps : List Piece) : Type 0 where
  pub inside : at ≤ length m
  pub stand : ArePieces m 0 at (pieces_of ps)

went_on : (m : List ℕ) (at : ℕ) (ps : List Piece) (f : FoundPiece) (all : List Piece) → Walked m at ps
    → ReadsPiece (drop at m) (Ok f) → all ≡ ps ++ f.piece ∷ [] → Walked m (at + f.end) all
went_on m at ps f all w is all_is =
    let end : f.end ≤ length (drop at m) = is.2 in
    let size : length (drop at m) ≡ length m - at = length-drop at m in
    let inside : at ≤ length m = w.inside in
    let here : StandsPiece m at (piece_of f.piece) = piece_behind m at (piece_of f.piece) inside is.0 in
    let last : at + f.end ≡ behind_fields at (piece_table (piece_of f.piece)) = end_behind at (piece_of f.piece) f.end is.1 in
    let named : pieces_of all ≡ pieces_of ps ++ piece_of f.piece ∷ [] = ap pieces_of all_is ∙ map-append piece_of ps (f.piece ∷ []) in
    record {
      inside = omega (arith, end, size, inside);
      stand = subst (λ (l : List SnapshotPiece). ArePieces m 0 (at + f.end) l) (sym named)
          (one_more m 0 at (at + f.end) (pieces_of ps) (piece_of f.piece) w.stand here last);
    }

pub arrived : (m : List ℕ) (at : ℕ) (ps : List Piece) → Walked m at ps → length m ≤ at → SpellsPieces m (pieces_of ps)
arrived m at ps w end =
    let inside : at ≤ length m = w.inside in
    let same : at ≡ length m = omega (arith, inside, end) in
    subst (λ (x : ℕ). ArePieces m 0 x (pieces_of ps)) same w.stand

broke : (m : List ℕ) (at : ℕ) (ps : List Piece) → Walked m at ps → at < length m → ReadsPiece (drop at m) (Err Bad) → BreaksPieces m at
broke m at ps w inside bad = record {
  front = pieces_of ps;
  stands = w.stand;
  inside = inside;
  none = λ p s. bad p (piece_ahead m at p w.inside s);
}

rest_of : (m : List ℕ) (at : ℕ) → take (length m - at) (drop at m) ≡ drop at m
rest_of m at = grind (arith, common_steps, length-drop)

pub went_on_in : (m : List ℕ) (at : ℕ) (ps : List Piece) (f : FoundPiece) (all : List Piece) → Walked m at ps
    → ReadsPiece (take (length m - at) (drop at m)) (Ok f) → all ≡ ps ++ f.piece ∷ [] → Walked m (at + f.end) all
went_on_in m at ps f all w is all_is = went_on m at ps f all w (subst (λ (l : List ℕ). ReadsPiece l (Ok f)) (rest_of m at) is) all_is

pub broke_in : (m : List ℕ) (at : ℕ) (ps : List Piece) (f : Fault) → Walked m at ps → at < length m → f ≡ Bad
    → ReadsPiece (take (length m - at) (drop at m)) (Err f) → BreaksPieces m at
broke_in m at ps f w inside is bad = broke m at ps w inside (subst (λ (l : List ℕ). ReadsPiece l (Err Bad)) (rest_of m at)
    (subst (λ (e : Fault). ReadsPiece (take (length m - at) (drop at m)) (Err e)) is bad))
