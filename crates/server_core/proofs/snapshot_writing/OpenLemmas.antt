-- Opens, ranges and guids of a snapshot under way: one more of each.
use Rattle.std.proofs.Common.{◌≡◌, ℕ, zero, suc, ◌+◌, ◌-◌, ◌<◌, Bool, true, false, ◌&&◌, if◌then◌else◌, List, [], ◌∷◌, ◌++◌, length, map, take}
use Rattle.std.proofs.Common.{get_or, Option, Some, None, refl, sym, ap, subst, ◌∙◌, arith, append_assoc}
use Rattle.std.proofs.lemmas.List.{append-nil, take_more}
use Rattle.spec_exchange.specs.State as model
use Rattle.spec_exchange.specs.State.{Server, Entry, Kept, Range}
use Rattle.spec_exchange.specs.Fold.{stays, ranges_that_stay}
use Rattle.law_snapshots.specs.snapshots.Pieces.{SnapshotPiece, OpenPiece, SlotPiece, RangePiece, GuidPiece, slot_piece, slot_pieces, open_pieces}
use Rattle.law_snapshots.specs.snapshots.Pieces.{range_pieces, all_range_pieces, guid_pieces}
use Rattle.journal.specs.disk_journal.Rewrite.{RewriteState}
use Rattle.journal_bytes.specs.declared.piece_bytes.value.OpenFront.{OpenFront}
use Rattle.journal_bytes.specs.piece_bytes.Meaning.{row_of}
use Rattle.store_opens.specs.declared.share_modes.lists.Range as held
use Rattle.store_opens.specs.share_modes.Locking.{range_of}
use Rattle.store_opens.specs.declared.open_table.row.Row.{Row}
use Rattle.store_opens.specs.open_table.Rows.{OpenRowFound, open_of}
use Rattle.law_snapshots.specs.snapshots.Taken.{numbered_entries}
use Rattle.server_core.specs.snapshot_writing.Told.{IsTold}

module _ {D : Type 0} (knows : Type 0) (drafted : D → List ℕ) (disk : D) (w : RewriteState) (body : List ℕ) where
  pub told_joined : (ps a b c : List SnapshotPiece) → c ≡ a ++ b → IsTold knows drafted disk w body ((ps ++ a) ++ b) → IsTold knows drafted disk w body (ps ++ c)
  told_joined ps a b c e h = subst (λ l. IsTold knows drafted disk w body l) (append_assoc ps a b ∙ ap (λ l. ps ++ l) (sym e)) h

  pub told_same : (ps a b : List SnapshotPiece) → a ≡ b → IsTold knows drafted disk w body (ps ++ a) → IsTold knows drafted disk w body (ps ++ b)
  told_same ps a b e h = subst (λ l. IsTold knows drafted disk w body (ps ++ l)) e h

  pub told_none : (ps a : List SnapshotPiece) → a ≡ [] → IsTold knows drafted disk w body ps → IsTold knows drafted disk w body (ps ++ a)
  told_none ps a e h = subst (λ l. IsTold knows drafted disk w body l) (sym (ap (λ l. ps ++ l) e ∙ append-nil ps)) h

-- ---- opens

pub no_opens : (s : Server) → open_pieces s [] ≡ []
unfolding open_pieces
no_opens s = refl

pub open_end : (s : Server) (os : List ℕ) (o : ℕ) → open_pieces s (os ++ o ∷ [])
    ≡ open_pieces s os ++ OpenPiece o (s.opened o) ∷ slot_pieces (s.lock_sequences o) o 64
unfolding open_pieces
open_end s [] o = ap (λ l. OpenPiece o (s.opened o) ∷ l) (append-nil (slot_pieces (s.lock_sequences o) o 64))
open_end s (x ∷ xs) o = ap (λ l. OpenPiece x (s.opened x) ∷ l)
    (ap (λ l. slot_pieces (s.lock_sequences x) x 64 ++ l) (open_end s xs o)
    ∙ sym (append_assoc (slot_pieces (s.lock_sequences x) x 64) (open_pieces s xs)
    (OpenPiece o (s.opened o) ∷ slot_pieces (s.lock_sequences o) o 64)))

pub opened_so : (r : Row) (s : Server) (o : ℕ) → OpenRowFound (Some r) s o → s.opened o ≡ open_of r
opened_so r s o h = h.1.opened_is

pub row_is : (r : Row) (g : ℕ) (front : OpenFront) → r.persistent ≡ true → r.guid ≡ Some g → front ≡ record {
  file = r.file;
  client = r.client;
  guid = g;
  access = r.access;
  share = r.share;
  options = r.options;
  action = r.action;
  timeout = r.timeout;
} → row_of r.user front ≡ open_of r
row_is r g front p e f = rw (f, p, e) refl

pub slots_step : (kept : ℕ → Option Kept) (o n : ℕ) → 0 < n → slot_pieces kept o n ≡ slot_piece o n (kept n) ++ slot_pieces kept o (n - 1)
unfolding slot_pieces
slots_step kept o zero l = absurd (omega arith)
slots_step kept o (suc n) l =
    let e : n ≡ suc n - 1 = omega arith in ap (λ m. slot_piece o (suc n) (kept (suc n)) ++ slot_pieces kept o m) e

pub slots_none : (kept : ℕ → Option Kept) (o n : ℕ) → n ≡ 0 → slot_pieces kept o n ≡ []
unfolding slot_pieces
slots_none kept o zero e = refl
slots_none kept o (suc n) e = absurd (omega (arith, e))

pub slot_none : (o n : ℕ) (k : Option Kept) → k ≡ None → slot_piece o n k ≡ []
unfolding slot_piece
slot_none o n None e = refl
slot_none o n (Some k) e = absurd (cc)

pub slot_some : (o n : ℕ) (k : Option Kept) (x : Kept) → Some x ≡ k → SlotPiece o n x.number x.status ∷ [] ≡ slot_piece o n k
unfolding slot_piece
slot_some o n None x e = absurd (cc)
slot_some o n (Some k) x e = let same : x ≡ k = cc in ap (λ (y : Kept). SlotPiece o n y.number y.status ∷ []) same

-- slots down to this one are told
abbrev pub SlotsSoFar : {D : Type 0} → Type 0 → (D → List ℕ) → D → RewriteState → List ℕ → (ℕ → Option Kept) → ℕ → List SnapshotPiece → ℕ → Type 0
SlotsSoFar knows drafted disk w body kept o ps n = (done : List SnapshotPiece) × (done ++ slot_pieces kept o n ≡ slot_pieces kept o 64)
    × IsTold knows drafted disk w body (ps ++ done)

module _ {D : Type 0} (knows : Type 0) (drafted : D → List ℕ) where
  pub slots_begun : (disk : D) (w : RewriteState) (body : List ℕ) (kept : ℕ → Option Kept) (o : ℕ) (ps : List SnapshotPiece)
      → IsTold knows drafted disk w body ps → SlotsSoFar knows drafted disk w body kept o ps 64
  slots_begun disk w body kept o ps h = ([], refl, told_none knows drafted disk w body ps [] refl h)

  pub slots_on : (disk disk2 : D) (w v : RewriteState) (body new : List ℕ) (kept : ℕ → Option Kept) (o : ℕ) (ps : List SnapshotPiece)
      (n m : ℕ) → 0 < n → m ≡ n - 1 → (h : SlotsSoFar knows drafted disk w body kept o ps n)
      → IsTold knows drafted disk2 v new ((ps ++ h.0) ++ slot_piece o n (kept n)) → SlotsSoFar knows drafted disk2 v new kept o ps m
  slots_on disk disk2 w v body new kept o ps n m l e h told = (
    h.0 ++ slot_piece o n (kept n),
    append_assoc h.0 (slot_piece o n (kept n)) (slot_pieces kept o m)
        ∙ (ap (λ k. h.0 ++ (slot_piece o n (kept n) ++ slot_pieces kept o k)) e
        ∙ (ap (λ x. h.0 ++ x) (sym (slots_step kept o n l)) ∙ h.1)),
    told_joined knows drafted disk2 v new ps h.0 (slot_piece o n (kept n)) (h.0 ++ slot_piece o n (kept n)) refl told,
  )

  pub slots_end : (disk : D) (w : RewriteState) (body : List ℕ) (kept : ℕ → Option Kept) (o : ℕ) (ps : List SnapshotPiece) (n : ℕ)
      → n ≡ 0 → SlotsSoFar knows drafted disk w body kept o ps n → IsTold knows drafted disk w body (ps ++ slot_pieces kept o 64)
  slots_end disk w body kept o ps n e h = told_same knows drafted disk w body ps h.0 (slot_pieces kept o 64)
      (sym (append-nil h.0) ∙ (ap (λ x. h.0 ++ x) (sym (slots_none kept o n e)) ∙ h.1)) h.2

-- ---- ranges

pub no_range : (s : Server) (r : Range) → stays s r.owner ≡ false → range_pieces (ranges_that_stay s (r ∷ [])) ≡ []
unfolding range_pieces ranges_that_stay
no_range s r e = rw e refl

pub one_range : (s : Server) (r : Range) → stays s r.owner ≡ true → range_pieces (ranges_that_stay s (r ∷ [])) ≡ RangePiece r ∷ []
unfolding range_pieces ranges_that_stay
one_range s r e = rw e refl

pub no_ranges : (s : Server) → range_pieces (ranges_that_stay s []) ≡ []
unfolding range_pieces ranges_that_stay
no_ranges s = refl

pub range_end : (s : Server) (rs : List Range) (r : Range) → range_pieces (ranges_that_stay s (rs ++ r ∷ []))
    ≡ range_pieces (ranges_that_stay s rs) ++ range_pieces (ranges_that_stay s (r ∷ []))
unfolding range_pieces ranges_that_stay
range_end s [] r = refl
range_end s (x ∷ xs) r = by (stays s x.owner) (range_end s xs r)
  where
    by : (b : Bool) → range_pieces (ranges_that_stay s (xs ++ r ∷ []))
        ≡ range_pieces (ranges_that_stay s xs) ++ range_pieces (ranges_that_stay s (r ∷ []))
        → range_pieces (if b then x ∷ ranges_that_stay s (xs ++ r ∷ []) else ranges_that_stay s (xs ++ r ∷ []))
        ≡ range_pieces (if b then x ∷ ranges_that_stay s xs else ranges_that_stay s xs) ++ range_pieces (ranges_that_stay s (r ∷ []))
    by true h = ap (λ l. RangePiece x ∷ l) h
    by false h = h

map_end : (rs : List held.Range) (x : held.Range) → map range_of (rs ++ x ∷ []) ≡ map range_of rs ++ range_of x ∷ []
map_end [] x = refl
map_end (r ∷ rs) x = ap (λ l. range_of r ∷ l) (map_end rs x)

pub map_taken : (s : Server) (rs : List held.Range) (i : ℕ) (d : held.Range) → i < length rs
    → range_pieces (ranges_that_stay s (map range_of (take (i + 1) rs)))
    ≡ range_pieces (ranges_that_stay s (map range_of (take i rs))) ++ range_pieces (ranges_that_stay s (range_of (get_or rs i d) ∷ []))
map_taken s rs i d l = ap (λ k. range_pieces (ranges_that_stay s (map range_of k))) (take_more rs i d l)
    ∙ (ap (λ k. range_pieces (ranges_that_stay s k)) (map_end (take i rs) (get_or rs i d))
    ∙ range_end s (map range_of (take i rs)) (range_of (get_or rs i d)))

pub kept_so : (r : Row) (s : Server) (o : ℕ) → OpenRowFound (Some r) s o → r.persistent ≡ stays s o
kept_so r s o h = sym (ap (λ b. b && (s.opened o).persistent) h.0 ∙ ap (λ (x : model.Open). x.persistent) h.1.opened_is)

pub kept_not : (s : Server) (o : ℕ) → OpenRowFound None s o → false ≡ stays s o
kept_not s o h = sym (ap (λ b. b && (s.opened o).persistent) h)

pub no_files : (s : Server) → all_range_pieces s (numbered_entries s []) ≡ []
unfolding all_range_pieces numbered_entries
no_files s = refl

pub all_end : (s : Server) (fs : List ℕ) (f : ℕ) → all_range_pieces s (numbered_entries s (fs ++ f ∷ []))
    ≡ all_range_pieces s (numbered_entries s fs) ++ range_pieces (ranges_that_stay s (s.ranges f))
unfolding all_range_pieces numbered_entries
all_end s [] f = append-nil (range_pieces (ranges_that_stay s (s.ranges f)))
all_end s (x ∷ xs) f = ap (λ l. range_pieces (ranges_that_stay s (s.ranges x)) ++ l) (all_end s xs f)
    ∙ sym (append_assoc (range_pieces (ranges_that_stay s (s.ranges x))) (all_range_pieces s (numbered_entries s xs))
    (range_pieces (ranges_that_stay s (s.ranges f))))

-- ---- guids

pub no_guids : guid_pieces [] ≡ []
unfolding guid_pieces
no_guids = refl

pub guid_end : (gs : List (ℕ × ℕ)) (g : ℕ × ℕ) → guid_pieces (gs ++ g ∷ []) ≡ guid_pieces gs ++ GuidPiece g.0 g.1 ∷ []
unfolding guid_pieces
guid_end [] g = refl
guid_end (x ∷ xs) g = ap (λ l. GuidPiece x.0 x.1 ∷ l) (guid_end xs g)
