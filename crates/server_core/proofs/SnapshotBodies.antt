-- Bodies of a snapshot, with bodies of records behind them.
use Rattle.std.proofs.Common.{◌≡◌, ℕ, true, List, [], ◌∷◌, ◌++◌, refl, sym, ap, subst, ◌∙◌, append_assoc}
use Rattle.std.proofs.lemmas.List.{append-nil}
use Rattle.spec_exchange.specs.Fold.{nothing_yet}
use Rattle.spec_exchange.specs.State as model
use Rattle.spec_exchange.specs.State.{Server}
use Rattle.law_server.proofs.tables.Logic.{front_of, back_of, both}
use Rattle.law_snapshots.specs.snapshots.Pieces.{SnapshotPiece, with_piece, with_pieces}
use Rattle.law_snapshots.specs.snapshots.Taken.{takes_piece, takes_pieces}
use Rattle.journal_bytes.specs.piece_bytes.Grammar.{SpellsPieces}
use Rattle.journal_bytes.specs.record_bytes.Grammar.{SpellsRecords}
use Rattle.journal_bytes.specs.record_bytes.Meaning.{records_of}
use Rattle.journal_bytes.specs.declared.record_bytes.value.Record.{Record}
use Rattle.server_core.specs.Over.{based, found_over}
use Rattle.server_core.specs.Reading.{BodiesSpell, PiecesFrom, SpellOver}
use Rattle.server_core.proofs.Bodies.{spell_more}

-- ---- pieces one behind the other

pub pieces_joined : (s : Server) (ps qs : List SnapshotPiece) → with_pieces s (ps ++ qs) ≡ with_pieces (with_pieces s ps) qs
unfolding with_pieces
pieces_joined s [] qs = refl
pieces_joined s (p ∷ ps) qs = pieces_joined (with_piece s p) ps qs

pub taken_joined : (s : Server) (ps qs : List SnapshotPiece) → takes_pieces s ps ≡ true → takes_pieces (with_pieces s ps) qs ≡ true
    → takes_pieces s (ps ++ qs) ≡ true
unfolding with_pieces takes_pieces
taken_joined s [] qs a b = b
taken_joined s (p ∷ ps) qs a b = both (takes_piece s p) (takes_pieces (with_piece s p) (ps ++ qs))
    (front_of (takes_piece s p) (takes_pieces (with_piece s p) ps) a)
    (taken_joined (with_piece s p) ps qs (back_of (takes_piece s p) (takes_pieces (with_piece s p) ps) a) b)

-- all pieces of bodies are taken
pub all_taken : (s : Server) (bodies : List (List ℕ)) (ps : List SnapshotPiece) → PiecesFrom s bodies ps → takes_pieces s ps ≡ true
unfolding takes_pieces
all_taken s [] ps h = ap (λ (xs : List SnapshotPiece). takes_pieces s xs) h
all_taken s (body ∷ bodies) ps h =
    let front = h.0 ∷ h.1 in
    ap (λ (xs : List SnapshotPiece). takes_pieces s xs) h.5
    ∙ taken_joined s front h.2 h.4 (all_taken (with_pieces s front) bodies h.2 h.6)

-- ---- one more body

pub pieces_more : (s : Server) (bodies : List (List ℕ)) (ps : List SnapshotPiece) (body : List ℕ) (q : SnapshotPiece)
    (qs : List SnapshotPiece) → PiecesFrom s bodies ps → SpellsPieces body (q ∷ qs) → takes_pieces (with_pieces s ps) (q ∷ qs) ≡ true
    → PiecesFrom s (bodies ++ body ∷ []) (ps ++ (q ∷ qs))
unfolding with_pieces
pieces_more s [] ps body q qs none spells taken =
    let is : with_pieces s ps ≡ s = ap (λ (xs : List SnapshotPiece). with_pieces s xs) none in (
      q,
      qs,
      [],
      spells,
      subst (λ (u : Server). takes_pieces u (q ∷ qs) ≡ true) is taken,
      ap (λ (xs : List SnapshotPiece). xs ++ (q ∷ qs)) none ∙ sym (append-nil (q ∷ qs)),
      refl,
    )
pieces_more s (b ∷ bodies) ps body q qs h spells taken =
    let front = h.0 ∷ h.1 in
    let u = with_pieces s front in
    let is : with_pieces s ps ≡ with_pieces u h.2 =
    ap (λ (xs : List SnapshotPiece). with_pieces s xs) h.5 ∙ pieces_joined s front h.2 in (
      h.0,
      h.1,
      h.2 ++ (q ∷ qs),
      h.3,
      h.4,
      ap (λ (xs : List SnapshotPiece). xs ++ (q ∷ qs)) h.5 ∙ append_assoc front h.2 (q ∷ qs),
      pieces_more u bodies h.2 body q qs h.6 spells (subst (λ (v : Server). takes_pieces v (q ∷ qs) ≡ true) is taken),
    )

pub over_more : (base : List SnapshotPiece) (bodies : List (List ℕ)) (rs : List model.Record) (body : List ℕ) (more : List Record)
    → SpellOver base bodies rs → SpellsRecords (found_over base rs).version body more
    → SpellOver base (bodies ++ body ∷ []) (rs ++ records_of more)
over_more base bodies rs body more h spells = record {
  front = h.front;
  back = h.back ++ body ∷ [];
  bodies_are = ap (λ (bs : List (List ℕ)). bs ++ body ∷ []) h.bodies_are ∙ append_assoc h.front h.back (body ∷ []);
  pieces = h.pieces;
  records = spell_more (based base) h.back rs body more h.records spells;
}

-- ---- a snapshot of no pieces

pub over_none : (bodies : List (List ℕ)) (rs : List model.Record) → BodiesSpell bodies rs → SpellOver [] bodies rs
unfolding with_pieces
over_none bodies rs h = record { front = []; back = bodies; bodies_are = refl; pieces = refl; records = h }

no_bodies : (s : Server) (bodies : List (List ℕ)) → PiecesFrom s bodies [] → bodies ≡ []
no_bodies s [] h = refl
no_bodies s (b ∷ bodies) h = absurd (let e : [] ≡ h.0 ∷ (h.1 ++ h.2) = h.5 in cc)

pub none_over : (bodies : List (List ℕ)) (rs : List model.Record) → SpellOver [] bodies rs → BodiesSpell bodies rs
unfolding with_pieces
none_over bodies rs h =
    let same : h.back ≡ bodies =
    sym (h.bodies_are ∙ ap (λ (bs : List (List ℕ)). bs ++ h.back) (no_bodies nothing_yet h.front h.pieces)) in
    subst (λ (bs : List (List ℕ)). BodiesSpell bs rs) same h.records
