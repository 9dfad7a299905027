-- The whole of a snapshot under way.
use Rattle.std.proofs.Common.{◌≡◌, ℕ, zero, suc, ◌<◌, ◌≤◌, ◌==◌, Bool, true, false, if◌then◌else◌, Result, Ok, Err}
use Rattle.std.proofs.Common.{OnOk, List, [], ◌∷◌, ◌++◌, length, refl, sym, ap, subst, ◌∙◌, arith}
use Rattle.std.proofs.lemmas.Bool.Decides.{nat_tests}
use Rattle.std.proofs.lemmas.List.{append-nil}
use Rattle.spec_exchange.specs.Table.{has}
use Rattle.spec_exchange.specs.State as model
use Rattle.spec_exchange.specs.State.{Server}
use Rattle.spec_exchange.specs.Files.{exists, info_of, root}
use Rattle.spec_exchange.specs.Fold.{persistent_in, ranges_that_stay}
use Rattle.law_snapshots.specs.snapshots.Pieces.{SnapshotPiece, BasePiece, FilePiece, BytesPiece}
use Rattle.law_snapshots.specs.snapshots.Pieces.{OpenPiece, SlotPiece, RangePiece, GuidPiece}
use Rattle.law_snapshots.specs.snapshots.Pieces.{base_piece, file_pieces, open_pieces, range_pieces, all_range_pieces, guid_pieces}
use Rattle.journal.specs.disk_journal.Rewrite.{RewriteState, IsDrafted}
use Rattle.journal_bytes.specs.piece_bytes.Grammar.{IsWritablePiece, AreWritablePieces, pieces_spelling}
use Rattle.journal_bytes.specs.piece_bytes.Largest.{piece_size, pieces_size}
use Rattle.std.proofs.lemmas.List.Elements.{All-nil}
use Rattle.store_files.specs.declared.file_tree.row.Info.{Info}
use Rattle.store_files.specs.file_tree.Shown.{model_info}
use Rattle.store_files.specs.file_tree.Placed.{IsPathOrder}
use Rattle.store_opens.specs.open_table.Stood.{AreExpired}
use Rattle.law_snapshots.specs.snapshots.Taken.{numbered_entries}
use Rattle.server_core.specs.snapshot_writing.Told.{IsTold, AreBodiesOf}
use Rattle.server_core.specs.snapshot_writing.Opens.{ArePersistent}
use Rattle.server_core.specs.snapshot_writing.Whole.{AllTold, IsWholeSnapshot}

times_of : (s : Server) (f : ℕ) → (info_of s f).times ≡ s.basic f
unfolding info_of
times_of s f = refl

pub root_there : (s : Server) → exists s 0 ≡ true
unfolding exists
root_there s = refl

pub base_is : (s : Server) (version epoch given next : ℕ) (i : Info) → s.version ≡ version → epoch ≡ s.epoch → given ≡ s.open_ids_given
    → next ≡ s.next_file → model_info i ≡ info_of s 0 → BasePiece version epoch given next i.basic ≡ base_piece s
base_is s version epoch given next i v e g n m =
    let b : i.basic ≡ s.basic 0 = ap (λ (x : model.Info). x.times) m ∙ times_of s 0 in rw (sym v, e, g, n, b) refl

-- each persistent open is one
kept_in : (opened : ℕ → model.Open) (o : ℕ) (os : List ℕ) → has o (persistent_in opened os) ≡ true → (opened o).persistent ≡ true
unfolding persistent_in
kept_in opened o [] h = absurd (cc)
kept_in opened o (x ∷ xs) h = by (opened x).persistent refl h (λ i. kept_in opened o xs i)
  where
    here : (opened x).persistent ≡ true → (b : Bool) → (x == o) ≡ b → (if b then true else has o (persistent_in opened xs)) ≡ true
        → (has o (persistent_in opened xs) ≡ true → (opened o).persistent ≡ true) → (opened o).persistent ≡ true
    here p true e t more = let z : x ≡ o = grind (arith, nat_tests) in ap (λ (k : ℕ). (opened k).persistent) (sym z) ∙ p
    here p false e t more = more t

    by : (b : Bool) → (opened x).persistent ≡ b → has o (if b then x ∷ persistent_in opened xs else persistent_in opened xs) ≡ true
        → (has o (persistent_in opened xs) ≡ true → (opened o).persistent ≡ true) → (opened o).persistent ≡ true
    by true p t more = here p (x == o) refl t more
    by false p t more = more t

pub kept_are : (s : Server) (ids : List ℕ) → ids ≡ persistent_in s.opened s.opens → ArePersistent s ids
kept_are s ids e o h = kept_in s.opened o s.opens (ap (has o) (sym e) ∙ h)

pub some_epoch : (e n : ℕ) → e ≡ n → (e ≡ 0 → ⊥) → 0 < n
some_epoch zero n same t = absurd (t refl)
some_epoch (suc k) n same t = omega (arith, same)

-- no bytes are no pieces
some_size : (p : SnapshotPiece) → 0 < piece_size p
unfolding piece_size
some_size (BasePiece version epoch given next times) = omega arith
some_size (FilePiece f path is_dir pending basic size stored) = omega arith
some_size (BytesPiece f at bytes) = omega arith
some_size (OpenPiece o row) = omega arith
some_size (SlotPiece o index number status) = omega arith
some_size (RangePiece r) = omega arith
some_size (GuidPiece client create) = omega arith

none_left : (ps : List SnapshotPiece) → pieces_size ps ≡ 0 → ps ≡ []
unfolding pieces_size
none_left [] e = refl
none_left (p ∷ ps) e = absurd (let l = some_size p in omega (arith, e, l))

pub both_ok : {T E : Type 0} (r : Result T E) (P Q Z : Type 0) → (P → Q → Z) → OnOk r P → OnOk r Q → OnOk r Z
both_ok (Ok x) P Q Z f p q = f p q
both_ok (Err e) P Q Z f p q = tt

module _ {D : Type 0} (knows : Type 0) (drafted : D → List ℕ) where
  pub told_begun : (disk : D) (w : RewriteState) → (knows → IsDrafted drafted disk w []) → IsTold knows drafted disk w [] []
  told_begun disk w d = record {
    bodies = [];
    front = [];
    last = [];
    all = refl;
    draft = d;
    bodies_are = refl;
    body_is = refl;
    writable = All-nil IsWritablePiece;
  }

  pub whole_is : (disk : D) (w : RewriteState) (body : List ℕ) (s : Server) (order : List ℕ) (ids : List ℕ) (guids : List (ℕ × ℕ))
      → ((ps : List SnapshotPiece) → AreWritablePieces ps → length (pieces_spelling ps) ≡ pieces_size ps)
      → IsPathOrder order s → ids ≡ persistent_in s.opened s.opens → AreExpired guids s → 0 < s.epoch → length guids ≤ 65536
      → AllTold knows drafted disk w body s order ids guids [] → body ≡ [] → IsWholeSnapshot knows drafted disk w s
  whole_is disk w body s order ids guids size ordered kept expired begun few h none =
      let t = h.2 in
      let last : t.last ≡ [] = none_left t.last (sym (size t.last t.writable) ∙ ap length (sym t.body_is ∙ none)) in
      record {
        bodies = t.bodies;
        draft = t.draft;
        snapshot = record {
          held = h.0;
          guids = guids;
          order = order;
          pieces = subst (λ os. AreBodiesOf t.bodies (base_piece s ∷ (file_pieces s h.0 (numbered_entries s order)
              ++ (open_pieces s os ++ (range_pieces (ranges_that_stay s (s.ranges root))
              ++ (all_range_pieces s (numbered_entries s order) ++ guid_pieces guids)))))) kept
              (subst (λ l. AreBodiesOf t.bodies l) (sym (t.all ∙ (ap (λ l. t.front ++ l) last ∙ append-nil t.front))) t.bodies_are);
          tells = h.1;
          ordered = ordered;
          expired = expired;
          begun = begun;
          few = few;
        };
      }
