-- Pieces of opens, ranges and guids leave the files alone.
use Rattle.std.proofs.Common.{◌≡◌, ℕ, Bool, true, false, ◌&&◌, List, [], ◌∷◌, ◌++◌, Option, Some, None, zero, suc}
use Rattle.std.proofs.Common.{refl, sym, ap, subst, ◌∙◌, arith}
use Rattle.spec_exchange.specs.Commands.{Basic}
use Rattle.spec_exchange.specs.State.{Server, Entry, Range, Kept}
use Rattle.spec_exchange.specs.Files.{root, exists_in}
use Rattle.spec_exchange.specs.Fold.{nothing_yet, persistent_in, ranges_that_stay}
use Rattle.spec_exchange.specs.Opens.{add_open}
use Rattle.spec_exchange.specs.Effects.{keep_slot}
use Rattle.spec_exchange.specs.CheckOpen.{is_slot}
use Rattle.law_server.specs.tables.Fits.{Fits}
use Rattle.law_server.proofs.tables.Logic.{either, front_of, back_of, both}
use Rattle.law_records.specs.fold.Order.{FilesAscend}
use Rattle.law_snapshots.specs.snapshots.Pieces.{SnapshotPiece, BasePiece, FilePiece, BytesPiece, OpenPiece, SlotPiece, RangePiece, GuidPiece, with_piece}
use Rattle.law_snapshots.specs.snapshots.Pieces.{with_pieces, FileBytes, may_stand, slot_piece, slot_pieces, open_pieces, range_pieces, all_range_pieces}
use Rattle.law_snapshots.specs.snapshots.Pieces.{guid_pieces, file_pieces, base_piece, snapshot_in, unfolded}
use Rattle.law_snapshots.specs.snapshots.Kept.{IsOrderOf, SnapshotFiles, TellsBytes}
use Rattle.law_snapshots.proofs.snapshots.Files.{behind_both, Walked, walked, Behind}
use Rattle.law_snapshots.proofs.snapshots.Order.{order_placed}

pub record SameFiles (t u : Server) : Type 0 where
  pub entries : u.entries ≡ t.entries
  pub next_file : u.next_file ≡ t.next_file
  pub directory : u.directory ≡ t.directory
  pub delete_pending : u.delete_pending ≡ t.delete_pending
  pub basic : u.basic ≡ t.basic
  pub content : u.content ≡ t.content

pub same : (t : Server) → SameFiles t t
same t = record { entries = refl; next_file = refl; directory = refl; delete_pending = refl; basic = refl; content = refl }

pub same_then : (r t u : Server) → SameFiles r t → SameFiles t u → SameFiles r u
same_then r t u a b = record {
  entries = b.entries ∙ a.entries;
  next_file = b.next_file ∙ a.next_file;
  directory = b.directory ∙ a.directory;
  delete_pending = b.delete_pending ∙ a.delete_pending;
  basic = b.basic ∙ a.basic;
  content = b.content ∙ a.content;
}

-- it is no piece of a file
abbrev pub is_apart : SnapshotPiece → Bool
is_apart (BasePiece version epoch given next times) = false
is_apart (FilePiece f path is_dir pending basic size stored) = false
is_apart (BytesPiece f at bytes) = false
is_apart (OpenPiece o row) = true
is_apart (SlotPiece o index number status) = true
is_apart (RangePiece r) = true
is_apart (GuidPiece client create) = true

abbrev pub all_apart : List SnapshotPiece → Bool
all_apart [] = true
all_apart (p ∷ ps) = is_apart p && all_apart ps

apart_keeps : (t : Server) (p : SnapshotPiece) → is_apart p ≡ true → SameFiles t (with_piece t p)
apart_keeps t (BasePiece version epoch given next times) h = absurd (cc)
apart_keeps t (FilePiece f path is_dir pending basic size stored) h = absurd (cc)
apart_keeps t (BytesPiece f at bytes) h = absurd (cc)
apart_keeps t (OpenPiece o row) h = either (λ u. SameFiles t u) (may_stand t o row) (add_open t o row None 0) t
    (λ _. record { entries = refl; next_file = refl; directory = refl; delete_pending = refl; basic = refl; content = refl }) (λ _. same t)
apart_keeps t (SlotPiece o index number status) h = either (λ u. SameFiles t u) (t.standing o) (keep_slot t o index number status) t
    (λ _. either (λ u. SameFiles t u) (is_slot index) _ t (λ _. record {
      entries = refl;
      next_file = refl;
      directory = refl;
      delete_pending = refl;
      basic = refl;
      content = refl;
    }) (λ _. same t)) (λ _. same t)
apart_keeps t (RangePiece r) h = either (λ u. SameFiles t u) (t.standing r.owner) _ t
    (λ _. record { entries = refl; next_file = refl; directory = refl; delete_pending = refl; basic = refl; content = refl }) (λ _. same t)
apart_keeps t (GuidPiece client create) h = record {
  entries = refl;
  next_file = refl;
  directory = refl;
  delete_pending = refl;
  basic = refl;
  content = refl;
}

pub all_keep : (t : Server) (ps : List SnapshotPiece) → all_apart ps ≡ true → SameFiles t (with_pieces t ps)
unfolding with_pieces
all_keep t [] h = same t
all_keep t (p ∷ ps) h =
    same_then t (with_piece t p) (with_pieces (with_piece t p) ps) (apart_keeps t p (front_of (is_apart p) (all_apart ps) h))
    (all_keep (with_piece t p) ps (back_of (is_apart p) (all_apart ps) h))

pub apart_both : (ps qs : List SnapshotPiece) → all_apart ps ≡ true → all_apart qs ≡ true → all_apart (ps ++ qs) ≡ true
apart_both [] qs h i = i
apart_both (p ∷ ps) qs h i =
    both (is_apart p) (all_apart (ps ++ qs)) (front_of (is_apart p) (all_apart ps) h)
    (apart_both ps qs (back_of (is_apart p) (all_apart ps) h) i)

slot_apart : (o index : ℕ) (k : Option Kept) → all_apart (slot_piece o index k) ≡ true
unfolding slot_piece
slot_apart o index None = refl
slot_apart o index (Some k) = refl

slots_apart : (slots : ℕ → Option Kept) (o n : ℕ) → all_apart (slot_pieces slots o n) ≡ true
unfolding slot_pieces
slots_apart slots o zero = refl
slots_apart slots o (suc n) =
    apart_both (slot_piece o (suc n) (slots (suc n))) (slot_pieces slots o n) (slot_apart o (suc n) (slots (suc n))) (slots_apart slots o n)

opens_apart : (s : Server) (os : List ℕ) → all_apart (open_pieces s os) ≡ true
unfolding open_pieces
opens_apart s [] = refl
opens_apart s (o ∷ os) = apart_both (slot_pieces (s.lock_sequences o) o 64) (open_pieces s os) (slots_apart (s.lock_sequences o) o 64) (opens_apart s os)

ranges_apart : (rs : List Range) → all_apart (range_pieces rs) ≡ true
unfolding range_pieces
ranges_apart [] = refl
ranges_apart (r ∷ rs) = ranges_apart rs

all_ranges_apart : (s : Server) (es : List Entry) → all_apart (all_range_pieces s es) ≡ true
unfolding all_range_pieces
all_ranges_apart s [] = refl
all_ranges_apart s (e ∷ es) =
    apart_both (range_pieces (ranges_that_stay s (s.ranges e.file))) (all_range_pieces s es)
    (ranges_apart (ranges_that_stay s (s.ranges e.file))) (all_ranges_apart s es)

guids_apart : (gs : List (ℕ × ℕ)) → all_apart (guid_pieces gs) ≡ true
unfolding guid_pieces
guids_apart [] = refl
guids_apart (g ∷ gs) = guids_apart gs

-- what stands behind the files in a snapshot
abbrev pub behind_files : Server → List (ℕ × ℕ) → List Entry → List SnapshotPiece
behind_files s guids order = open_pieces s (persistent_in s.opened s.opens)
    ++ (range_pieces (ranges_that_stay s (s.ranges root)) ++ (all_range_pieces s order ++ guid_pieces guids))

behind_apart : (s : Server) (guids : List (ℕ × ℕ)) (order : List Entry) → all_apart (behind_files s guids order) ≡ true
behind_apart s guids order =
    apart_both (open_pieces s (persistent_in s.opened s.opens)) _ (opens_apart s (persistent_in s.opened s.opens))
    (apart_both (range_pieces (ranges_that_stay s (s.ranges root))) _ (ranges_apart (ranges_that_stay s (s.ranges root)))
    (apart_both (all_range_pieces s order) (guid_pieces guids) (all_ranges_apart s order) (guids_apart guids)))

-- ---- the files of a snapshot

abbrev pub based : Server → (ℕ → List ℕ) → Server
based s stored = with_piece (record nothing_yet { stored = stored }) (base_piece s)

pub first_behind : (s : Server) (stored : ℕ → List ℕ) (held : ℕ → FileBytes) (order : List Entry) → Fits s → TellsBytes (record s { stored = stored }) held → IsOrderOf order s.entries
    → Behind s stored (based s stored) held order
unfolding exists_in
first_behind s stored held order i c n = record {
  given = λ f h. i.file_numbers f (sym (n.there f) ∙ h);
  once = n.once;
  free = λ f h. refl;
  told = λ f h. c f (sym (n.there f) ∙ h);
  beside = refl;
}

pub files_walked : (s : Server) (stored : ℕ → List ℕ) (held : ℕ → FileBytes) (order : List Entry) → Fits s → TellsBytes (record s { stored = stored }) held → IsOrderOf order s.entries
    → Walked s (based s stored) (with_pieces (based s stored) (file_pieces s held order)) order
files_walked s stored held order i c n = walked s stored (based s stored) held order (first_behind s stored held order i c n)

-- they stand in the order of their numbers
pub walked_entries : (s : Server) (stored : ℕ → List ℕ) (t : Server) (order : List Entry) → FilesAscend s → IsOrderOf order s.entries → Walked s (based s stored) t order
    → t.entries ≡ s.entries
walked_entries s stored t order a n w = w.entries ∙ order_placed order s.entries n a

pub no_root : (s : Server) → Fits s → exists_in s.entries root ≡ false
no_root s i = by (exists_in s.entries root) (λ h. let l = (i.file_numbers root h).0 in omega (arith, l))
  where
    by : (b : Bool) → (b ≡ true → ⊥) → b ≡ false
    by true h = absurd (h refl)
    by false h = refl

pub files_kept : (s : Server) (stored : ℕ → List ℕ) (held : ℕ → FileBytes) (guids : List (ℕ × ℕ)) (order : List Entry) → Fits s → FilesAscend s
    → TellsBytes (record s { stored = stored }) held → IsOrderOf order s.entries → SnapshotFiles (unfolded (snapshot_in s held guids order) stored) s
unfolding with_pieces
files_kept s stored held guids order i a c n =
    let t : Server = with_pieces (based s stored) (file_pieces s held order) in
    let w : Walked s (based s stored) t order = files_walked s stored held order i c n in
    let k : SameFiles t (with_pieces t (behind_files s guids order)) =
    all_keep t (behind_files s guids order) (behind_apart s guids order) in
    subst (λ (d : Server). SnapshotFiles d s) (sym (behind_both (based s stored) (file_pieces s held order) (behind_files s guids order)))
    (record {
      entries = k.entries ∙ walked_entries s stored t order a n w;
      next_file = k.next_file ∙ ap (λ (x : Server). x.next_file) w.is;
      root_times = ap (λ (b : ℕ → Basic). b root) k.basic ∙ (w.other root (n.there root ∙ no_root s i)).basic;
      directory = λ f h. ap (λ (b : ℕ → Bool). b f) k.directory ∙ (w.here f (n.there f ∙ h)).directory;
      delete_pending = λ f h. ap (λ (b : ℕ → Bool). b f) k.delete_pending ∙ (w.here f (n.there f ∙ h)).delete_pending;
      basic = λ f h. ap (λ (b : ℕ → Basic). b f) k.basic ∙ (w.here f (n.there f ∙ h)).basic;
      content = λ f h. ap (λ (b : ℕ → List ℕ). b f) k.content ∙ (w.here f (n.there f ∙ h)).content;
    })
