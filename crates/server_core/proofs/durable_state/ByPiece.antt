-- What each piece of a snapshot makes of what is shown.
use Rattle.std.proofs.Common.{◌≡◌, ℕ, ◌+◌, ◌<◌, ◌≤◌, ◌^◌, ◌==◌, nat_eq, nat_le, nat_lt, Bool, true, false, not, ◌&&◌, if◌then◌else◌, List, []}
use Rattle.std.proofs.Common.{◌∷◌, length, take, drop, get_or, zero, suc, Some, None, is_some, slice_get, refl, sym, ap, subst, ◌∙◌, arith, eqb-true}
use Rattle.std.proofs.lemmas.Bool.Decides.{nat_tests}
use Rattle.std.proofs.lemmas.List.{drop_more}
use Rattle.std.specs.BTreeSet.{contains}
use Rattle.std.specs.HashMap.{get}
use Rattle.std.specs.Ordering.{nat_cmp}
use Rattle.spec_exchange.specs.Table.{put, put2}
use Rattle.spec_exchange.specs.Content.{ended}
use Rattle.spec_exchange.specs.Commands.{Basic, deletes_on_close}
use Rattle.spec_exchange.specs.CheckOpen.{is_slot}
use Rattle.spec_exchange.specs.Effects.{keep_slot}
use Rattle.spec_exchange.specs.Files.{root, exists, exists_in, used}
use Rattle.spec_exchange.specs.Opens.{add_open, id_of, max_ids}
use Rattle.spec_exchange.specs.Step.{add_expired_guid}
use Rattle.spec_exchange.specs.State as model
use Rattle.spec_exchange.specs.State.{Server, Entry, Range}
use Rattle.store_files.specs.file_tree.Shown.{FilesShown, ShowsFiles}
use Rattle.store_files.specs.declared.file_tree.tree.Tree.{Tree}
use Rattle.store_opens.specs.open_index.Held.{HeldShown, sharing_in}
use Rattle.store_opens.specs.open_table.Shown.{ShowsOpens}
use Rattle.store_opens.specs.declared.open_table.table.Opens.{Opens}
use Rattle.law_records.specs.fold.Order.{FilesAscend}
use Rattle.law_server.specs.tables.Fits.{Fits}
use Rattle.law_server.proofs.tables.Logic.{front_of, back_of, both, not_true}
use Rattle.law_snapshots.specs.snapshots.Pieces.{SnapshotPiece, BasePiece, BytesPiece, FilePiece, GuidPiece, OpenPiece, RangePiece, SlotPiece}
use Rattle.law_snapshots.specs.snapshots.Pieces.{has_free_guid, may_place, may_stand, place_file, placed_entry, with_piece}
use Rattle.law_snapshots.specs.snapshots.Pieces.{with_pieces}
use Rattle.journal_bytes.specs.piece_bytes.Meaning.{piece_of, pieces_of, row_of}
use Rattle.journal_bytes.specs.declared.piece_bytes.value.OpenFront.{OpenFront}
use Rattle.journal_bytes.specs.declared.piece_bytes.value.Piece.{Piece}
use Rattle.store_opens.specs.declared.share_modes.lists.Range as held_range
use Rattle.store_opens.specs.share_modes.Locking.{range_of}
use Rattle.store_files.specs.file_tree.Placed.{IsOneMore, PlacedIf, has_free_number, has_free_path, may_be_placed, may_have_bytes, with_bytes}
use Rattle.store_files.specs.declared.file_tree.placing.PlacedFile.{PlacedFile}
use Rattle.store_opens.specs.open_table.Stood.{may_stand_again, may_expire_once, stood, with_range}
use Rattle.law_snapshots.specs.snapshots.Taken.{has_size, is_unnumbered, may_name, takes_piece, takes_pieces}
use Rattle.server_core.specs.durable_state.Durable.{DurableShown, TookPiece, front_parts}
use Rattle.server_core.specs.declared.durable_state.durable.Durable.{Durable}

-- ---- tests

pub off_front : (a b : Bool) → a ≡ false → false ≡ (a && b)
off_front true b e = absurd (cc)
off_front false b e = refl

pub off_back : (a b : Bool) → b ≡ false → false ≡ (a && b)
off_back true b e = sym e
off_back false b e = refl

on_true : {X : Type 0} (P : X → Type 0) (b : Bool) (x y : X) → b ≡ true → P (if b then x else y) → P x
on_true P true x y e h = h
on_true P false x y e h = absurd (cc)

to_true : {X : Type 0} (P : X → Type 0) (b : Bool) (x y : X) → b ≡ true → P x → P (if b then x else y)
to_true P true x y e h = h
to_true P false x y e h = absurd (cc)

-- ---- the opens, where another part alone changed

files_behind : (d : Durable) (t : Tree) (s u : Server) → DurableShown d s → ShowsFiles t u → ShowsOpens d.opens u → u.version ≡ s.version
    → u.epoch ≡ s.epoch
    → ((f : ℕ) → exists_in u.entries f ≡ true → u.delete_pending f ≡ true → contains nat_cmp d.pending f ≡ true) → FilesAscend u
    → DurableShown (record d { tree = t }) u
files_behind d t s u h files opens version epoch pending ascend =
    record {
      files = files;
      opens = opens;
      version_is = version ∙ h.version_is;
      epoch_is = epoch ∙ h.epoch_is;
      pending = pending;
      ascend = ascend;
    }

opens_behind : (d : Durable) (t : Opens) (s u : Server) → DurableShown d s → ShowsOpens t u → ShowsFiles d.tree u → u.version ≡ s.version
    → u.epoch ≡ s.epoch → u.entries ≡ s.entries → u.delete_pending ≡ s.delete_pending → DurableShown (record d { opens = t }) u
opens_behind d t s u h opens files version epoch entries marks =
    record {
      files = files;
      opens = opens;
      version_is = version ∙ h.version_is;
      epoch_is = epoch ∙ h.epoch_is;
      pending = λ f e m. h.pending f (ap (λ (es : List Entry). exists_in es f) (sym entries) ∙ e) (ap (λ (p : ℕ → Bool). p f) (sym marks) ∙ m);
      ascend = subst (λ (es : List Entry). FilesAscend (record s { entries = es })) (sym entries) h.ascend;
    }

-- ---- a file

one_more : (e : Entry) (es : List Entry) → IsOneMore e es (placed_entry e es)
unfolding placed_entry
one_more e [] = ([], [], refl, refl)
one_more e (x ∷ xs) = by (nat_lt e.file x.file) (one_more e xs)
  where
    by : (b : Bool) → IsOneMore e xs (placed_entry e xs) → IsOneMore e (x ∷ xs) (if b then e ∷ x ∷ xs else x ∷ placed_entry e xs)
    by true r = ([], x ∷ xs, refl, refl)
    by false r = (x ∷ r.0, r.1, ap (λ (v : List Entry). x ∷ v) r.2, ap (λ (v : List Entry). x ∷ v) r.3)

none_taken : (w : List ℕ) → take 0 w ≡ []
none_taken [] = refl
none_taken (x ∷ w) = refl

and_true : (a b c : Bool) → (a && (b && c)) ≡ (a && (b && (c && true)))
and_true true true true = refl
and_true true true false = refl
and_true true false c = refl
and_true false b c = refl

file_rule : (s : Server) (f : ℕ) (path : List ℕ) (size : ℕ)
    → may_be_placed s f path size ≡ (may_place s f && (may_name s path && (has_size s size && (0 == 0))))
unfolding may_place may_name has_size
file_rule s f path size = and_true (has_free_number s f) (has_free_path s path) (nat_lt (used s + size) 0x1_0000_0000_0000_0000)

exists_more : (e : Entry) (es : List Entry) (f : ℕ) → exists_in (placed_entry e es) f ≡ (if e.file == f then true else exists_in es f)
unfolding placed_entry exists_in
exists_more e [] f = refl
exists_more e (x ∷ xs) f = by (nat_lt e.file x.file) (exists_more e xs f)
  where
    by : (b : Bool) → exists_in (placed_entry e xs) f ≡ (if e.file == f then true else exists_in xs f)
        → exists_in (if b then e ∷ x ∷ xs else x ∷ placed_entry e xs) f
        ≡ (if e.file == f then true else (if x.file == f then true else exists_in xs f))
    by true h = refl
    by false h = let k = h in grind arith

-- a number that no file has isn't locked
no_ranges : (s : Server) (f : ℕ) → Fits s → exists s f ≡ false → s.ranges f ≡ []
no_ranges s f i h = none (s.ranges f) (λ r e.
    let own = i.range_owners f 0 r e in
    let there : exists s f ≡ true = subst (λ (g : ℕ). exists s g ≡ true) own.1 (i.open_files r.owner own.0) in
    cc)
  where
    none : (rs : List Range) → ((r : Range) → slice_get rs 0 ≡ Some r → ⊥) → rs ≡ []
    none [] g = refl
    none (r ∷ rs) g = absurd (g r refl)

absent : (s : Server) (f : ℕ) → has_free_number s f ≡ true → exists s f ≡ false
unfolding exists
absent s f h =
    let some : nat_lt 0 f ≡ true = front_of (nat_lt 0 f) _ h in
    let apart : (f == root) ≡ false = grind (arith, nat_tests) in
    let gone : exists_in s.entries f ≡ false = not_true (exists_in s.entries f) (back_of (nat_lt f s.next_file) _ (back_of (nat_lt 0 f) _ h)) in
    grind arith

ranges_same : (t : Opens) (s : Server) (ranges : ℕ → List Range) → ((f : ℕ) → s.ranges f ≡ ranges f) → ShowsOpens t s
    → ShowsOpens t (record s { ranges = ranges })
ranges_same t s ranges same h =
    record {
      epoch_is = h.epoch_is;
      given_is = h.given_is;
      count_is = h.count_is;
      rows_are = h.rows_are;
      trees_are = h.trees_are;
      guids_are = h.guids_are;
      files_are = λ f. subst (λ (v : List Range). HeldShown (get nat_eq t.files f) (sharing_in s.opened s.opens f) v) (same f) (h.files_are f);
      sessions_are = h.sessions_are;
      listed = h.listed;
      plain_listed = h.plain_listed;
      named = h.named;
      expired_are = h.expired_are;
      expired_count_is = h.expired_count_is;
      indexed = h.indexed;
      undated = h.undated;
    }

put_same : (g : ℕ → List Range) (k : ℕ) → g k ≡ [] → (f : ℕ) → g f ≡ put g k [] f
put_same g k e f = by (f == k) refl
  where
    by : (b : Bool) → (f == k) ≡ b → g f ≡ (if b then [] else g f)
    by true h = ap g (eqb-true f k h) ∙ e
    by false h = refl

marked_file : (d : Durable) (s : Server) (e : Entry) (pending : Bool) → DurableShown d s → (pending ≡ true → contains nat_cmp d.pending e.file ≡ true)
    → (g : ℕ) → exists_in (placed_entry e s.entries) g ≡ true → put s.delete_pending e.file pending g ≡ true → contains nat_cmp d.pending g ≡ true
marked_file d s e pending h noted g there m = by (g == e.file) refl m (e.file == g) refl (sym (exists_more e s.entries g) ∙ there)
  where
    by : (b : Bool) → (g == e.file) ≡ b → (if b then pending else s.delete_pending g) ≡ true → (c : Bool) → (e.file == g) ≡ c
        → (if c then true else exists_in s.entries g) ≡ true → contains nat_cmp d.pending g ≡ true
    by true q k c r x = subst (λ (z : ℕ). contains nat_cmp d.pending z ≡ true) (sym (eqb-true g e.file q)) (noted k)
    by false q k true r x = absurd (let z = eqb-true e.file g r in grind arith)
    by false q k false r x = h.pending g x k

file_shown : (d : Durable) (t : Tree) (s : Server) (path : List ℕ) (p : PlacedFile) → Fits s → DurableShown d s
    → (p.pending ≡ true → contains nat_cmp d.pending p.file ≡ true)
    → FilesAscend (place_file s p.file path p.directory p.pending p.basic p.size 0)
    → has_free_number s p.file ≡ true → PlacedIf true t s path p
    → DurableShown (record d { tree = t }) (place_file s p.file path p.directory p.pending p.basic p.size 0)
file_shown d t s path p i h noted ascend free shown =
    let e : Entry = record { file = p.file; path = path } in
    let files : ShowsFiles t (place_file s p.file path p.directory p.pending p.basic p.size 0) =
    subst (λ (c : List ℕ). FilesShown t (placed_entry e s.entries) s.next_file (put s.directory p.file p.directory)
    (put s.delete_pending p.file p.pending) (put s.basic p.file p.basic) (put s.content p.file (ended p.size c)) s.room)
    (sym (none_taken (s.stored p.file))) (shown (placed_entry e s.entries) (one_more e s.entries)) in
    files_behind d t s (place_file s p.file path p.directory p.pending p.basic p.size 0) h files
    (ranges_same d.opens s (put s.ranges p.file []) (put_same s.ranges p.file (no_ranges s p.file i (absent s p.file free))) h.opens)
    refl refl (marked_file d s e p.pending h noted) ascend

-- behind the tree's answer
pub file_took : (d : Durable) (t : Tree) (s : Server) (path : List ℕ) (p : PlacedFile) (b : Bool) → Fits s → DurableShown d s
    → (p.pending ≡ true → contains nat_cmp d.pending p.file ≡ true)
    → ((q : SnapshotPiece) → FilesAscend s → takes_piece s q ≡ true → FilesAscend (with_piece s q))
    → (b ≡ may_be_placed s p.file path p.size) × PlacedIf b t s path p
    → TookPiece (record d { tree = t }) s (FilePiece p.file path p.directory p.pending p.basic p.size 0) b
unfolding may_place
file_took d t s path p b i h noted ascends told =
    let rule : b ≡ takes_piece s (FilePiece p.file path p.directory p.pending p.basic p.size 0) = told.0 ∙ file_rule s p.file path p.size in (
      rule,
      λ on.
          let can : may_be_placed s p.file path p.size ≡ true = sym told.0 ∙ on in
          let free : has_free_number s p.file ≡ true = front_of (has_free_number s p.file) _ can in
          let made : with_piece s (FilePiece p.file path p.directory p.pending p.basic p.size 0)
          ≡ place_file s p.file path p.directory p.pending p.basic p.size 0 =
          ap (λ (k : Bool). if k then place_file s p.file path p.directory p.pending p.basic p.size 0 else s) free in
          let ascend = subst (λ (u : Server). FilesAscend u) made
          (ascends (FilePiece p.file path p.directory p.pending p.basic p.size 0) h.ascend (sym rule ∙ on)) in
          subst (λ (u : Server). DurableShown (record d { tree = t }) u) (sym made)
          (file_shown d t s path p i h noted ascend free (subst (λ (k : Bool). PlacedIf k t s path p) on told.1)),
    )

-- more is noted as delete pending
pub noted_shown : (d n : Durable) (s : Server) → n ≡ record d { pending = n.pending }
    → ((f : ℕ) → contains nat_cmp d.pending f ≡ true → contains nat_cmp n.pending f ≡ true) → DurableShown d s → DurableShown n s
noted_shown d n s rest before h =
    subst (λ (m : Durable). DurableShown m s) (sym rest) (record {
      files = h.files;
      opens = h.opens;
      version_is = h.version_is;
      epoch_is = h.epoch_is;
      pending = λ f e m. before f (h.pending f e m);
      ascend = h.ascend;
    })

-- ---- bytes

pub bytes_took : (d : Durable) (t : Tree) (s : Server) (f at : ℕ) (bytes : List ℕ) (b : Bool) → DurableShown d s
    → (b ≡ may_have_bytes s f at bytes) × ShowsFiles t (if b then with_bytes s f at bytes else s)
    → TookPiece (record d { tree = t }) s (BytesPiece f at bytes) b
bytes_took d t s f at bytes b h told = (
  told.0,
  λ on.
      let u : Server = with_bytes s f at bytes in
      let there : exists_in s.entries f ≡ true = front_of (exists_in s.entries f) _ (sym told.0 ∙ on) in
      to_true (λ (x : Server). DurableShown (record d { tree = t }) x) (exists_in s.entries f) u s there
      (files_behind d t s u h (on_true (λ (x : Server). ShowsFiles t x) b u s on told.1) h.opens refl refl h.pending h.ascend),
)

-- ---- an open

stand_rule : (z o : Bool) (stands there kept free : Bool) → (there && kept) ≡ true
    → ((z && (o && not stands)) && (true && free)) ≡ ((z && (not stands && (true && (there && (kept && free))))) && o)
stand_rule z o stands there kept free h =
    let a = front_of there kept h in let b = back_of there kept h in by z o stands free there a kept b
  where
    by : (z o stands free : Bool) → (there : Bool) → there ≡ true → (kept : Bool) → kept ≡ true
        → ((z && (o && not stands)) && (true && free)) ≡ ((z && (not stands && (true && (there && (kept && free))))) && o)
    by z o stands free false a kept b = absurd (cc)
    by z o stands free true a false b = absurd (cc)
    by false o stands free true a true b = refl
    by true false true free true a true b = refl
    by true false false true true a true b = refl
    by true false false false true a true b = refl
    by true true true free true a true b = refl
    by true true false true true a true b = refl
    by true true false false true a true b = refl

pub open_took : (d : Durable) (t : Opens) (s : Server) (o : ℕ) (user : List ℕ) (front : OpenFront) (b : Bool) → DurableShown d s
    → (exists s front.file && not (deletes_on_close front.options && (front.file == root))) ≡ true
    → (b ≡ may_stand_again s o (front_parts front)) × ShowsOpens t (if b then stood s o (front_parts front) user else s)
    → TookPiece (record d { opens = t }) s (OpenPiece o (row_of user front)) b
unfolding may_stand has_free_guid
open_took d t s o user front b h may told =
    let rule : b ≡ takes_piece s (OpenPiece o (row_of user front)) =
    told.0 ∙ stand_rule (nat_lt 0 o) (nat_le o (id_of s.epoch s.open_ids_given)) (s.standing o) (exists s front.file)
    (not (deletes_on_close front.options && (front.file == root))) (not (is_some (s.by_guid front.client front.guid))) may in (
      rule,
      λ on.
          let u : Server = add_open s o (row_of user front) None 0 in
          let stands : may_stand s o (row_of user front) ≡ true = front_of (may_stand s o (row_of user front)) _ (sym rule ∙ on) in
          to_true (λ (x : Server). DurableShown (record d { opens = t }) x) (may_stand s o (row_of user front)) u s stands
          (opens_behind d t s u h (on_true (λ (x : Server). ShowsOpens t x) b u s on told.1) h.files refl refl refl refl),
    )

-- ---- slots, ranges and guids

pub slot_took : (d : Durable) (t : Opens) (s : Server) (o index number status : ℕ) → DurableShown d s → s.standing o ≡ true
    → is_slot index ≡ true → ShowsOpens t (keep_slot s o index number status)
    → TookPiece (record d { opens = t }) s (SlotPiece o index number status) true
slot_took d t s o index number status h st ok shown = (
  sym (both (s.standing o) (is_slot index) st ok),
  λ on.
      let u : Server = record s { lock_sequences = put2 s.lock_sequences o index (Some (record { number = number; status = status })) } in
      to_true (λ (x : Server). DurableShown (record d { opens = t }) x) (s.standing o) (keep_slot s o index number status) s st
      (to_true (λ (x : Server). DurableShown (record d { opens = t }) x) (is_slot index) u s ok
      (opens_behind d t s u h (on_true (λ (x : Server). ShowsOpens t x) (is_slot index) u s ok shown) h.files refl refl refl refl)),
)

pub range_took : (d : Durable) (t : Opens) (s : Server) (held : held_range.Range) (r : Range) (b : Bool) → range_of held ≡ r → DurableShown d s
    → (b ≡ s.standing held.owner) × ShowsOpens t (if b then with_range s held else s)
    → TookPiece (record d { opens = t }) s (RangePiece r) b
range_took d t s held r b same h told =
    subst (λ (x : Range). TookPiece (record d { opens = t }) s (RangePiece x) b) same (
      told.0,
      λ on.
          let u : Server = with_range s held in
          to_true (λ (x : Server). DurableShown (record d { opens = t }) x) (s.standing held.owner) u s (sym told.0 ∙ on)
          (opens_behind d t s u h (on_true (λ (x : Server). ShowsOpens t x) b u s on told.1) h.files refl refl refl refl),
    )

less_more : (n : ℕ) → nat_lt n 65536 ≡ true → nat_lt n 0xffff_ffff ≡ true
less_more n h = grind (arith, nat_tests)

pub guid_took : (d : Durable) (t : Opens) (s : Server) (client guid : ℕ) (b : Bool) → DurableShown d s → nat_lt 0 s.epoch ≡ true
    → nat_lt s.expired_count 65536 ≡ true
    → (b ≡ may_expire_once s client guid) × ShowsOpens t (if b then add_expired_guid s client (Some guid) else s)
    → TookPiece (record d { opens = t }) s (GuidPiece client guid) b
guid_took d t s client guid b h began few told = (
  told.0 ∙ ap (λ (k : Bool). not (s.expired_guids client guid) && k) (less_more s.expired_count few ∙ sym few)
      ∙ ap (λ (k : Bool). k && (not (s.expired_guids client guid) && nat_lt s.expired_count 65536)) (sym began),
  λ on.
      let u : Server = add_expired_guid s client (Some guid) in
      opens_behind d t s u h (on_true (λ (x : Server). ShowsOpens t x) b u s on told.1) h.files refl refl refl refl,
)

-- ---- the numbers

pub base_shown : (d : Durable) (t : Tree) (o : Opens) (s : Server) (epoch given next : ℕ) (times : Basic) → DurableShown d s
    → ShowsFiles t (record s { next_file = next; basic = put s.basic root times })
    → ShowsOpens o (record s { epoch = epoch; open_ids_given = given })
    → DurableShown (record d { version = 2; epoch = epoch; opens = o; tree = t }) (with_piece s (BasePiece 2 epoch given next times))
base_shown d t o s epoch given next times h files opens =
    record { files = files; opens = opens; version_is = refl; epoch_is = refl; pending = h.pending; ascend = h.ascend }

-- ---- pieces, one behind the other

-- a state from which the pieces that are left lead where all of them do
abbrev pub TakesOn : Durable → Server → List Piece → List Piece → Type 0
TakesOn d s all left = (u : Server) × Fits u × DurableShown d u × (takes_pieces s (pieces_of all) ≡ takes_pieces u (pieces_of left))
    × (with_pieces s (pieces_of all) ≡ with_pieces u (pieces_of left))

pub takes_first : (d : Durable) (s : Server) (all : List Piece) → Fits s → DurableShown d s → TakesOn d s all all
takes_first d s all i h = (s, i, h, refl, refl)

takes_next : (u : Server) (p : SnapshotPiece) (ps : List SnapshotPiece) → takes_pieces u (p ∷ ps) ≡ (takes_piece u p && takes_pieces (with_piece u p) ps)
unfolding takes_pieces
takes_next u p ps = refl

with_next : (u : Server) (p : SnapshotPiece) (ps : List SnapshotPiece) → with_pieces u (p ∷ ps) ≡ with_pieces (with_piece u p) ps
unfolding with_pieces
with_next u p ps = refl

drop_none : (all : List Piece) (i : ℕ) → length all ≤ i → drop i all ≡ []
drop_none [] zero h = refl
drop_none [] (suc i) h = refl
drop_none (r ∷ all) zero h = absurd (omega (arith, h))
drop_none (r ∷ all) (suc i) h = drop_none all i (omega (arith, h))

-- the next piece of those that are left
next_left : (all : List Piece) (i : ℕ) (p : Piece) → i < length all → p ≡ get_or all i p
    → pieces_of (drop i all) ≡ piece_of p ∷ pieces_of (drop (i + 1) all)
next_left all i p less item =
    ap (λ (xs : List Piece). pieces_of xs) (drop_more all i p less)
    ∙ ap (λ (x : Piece). piece_of x ∷ pieces_of (drop (i + 1) all)) (sym item)

pub took_next : (d e : Durable) (s : Server) (all : List Piece) (i : ℕ) (p : Piece) → i < length all → p ≡ get_or all i p
    → (v : TakesOn d s all (drop i all)) → TookPiece e v.0 (piece_of p) true → Fits (with_piece v.0 (piece_of p)) → TakesOn e s all (drop (i + 1) all)
took_next d e s all i p less item v took fits =
    let left = next_left all i p less item in (
      with_piece v.0 (piece_of p),
      fits,
      took.1 refl,
      v.3 ∙ ap (λ (ps : List SnapshotPiece). takes_pieces v.0 ps) left ∙ takes_next v.0 (piece_of p) (pieces_of (drop (i + 1) all))
          ∙ ap (λ (b : Bool). b && takes_pieces (with_piece v.0 (piece_of p)) (pieces_of (drop (i + 1) all))) (sym took.0),
      v.4 ∙ ap (λ (ps : List SnapshotPiece). with_pieces v.0 ps) left ∙ with_next v.0 (piece_of p) (pieces_of (drop (i + 1) all)),
    )

pub took_no_more : (d e : Durable) (s : Server) (all : List Piece) (i : ℕ) (p : Piece) → i < length all → p ≡ get_or all i p
    → (v : TakesOn d s all (drop i all)) → TookPiece e v.0 (piece_of p) false → false ≡ takes_pieces s (pieces_of all)
took_no_more d e s all i p less item v took =
    off_front (takes_piece v.0 (piece_of p)) (takes_pieces (with_piece v.0 (piece_of p)) (pieces_of (drop (i + 1) all))) (sym took.0)
    ∙ sym (takes_next v.0 (piece_of p) (pieces_of (drop (i + 1) all)))
    ∙ ap (λ (ps : List SnapshotPiece). takes_pieces v.0 ps) (sym (next_left all i p less item)) ∙ sym v.3

none_left : (u : Server) → (takes_pieces u [] ≡ true) × (with_pieces u [] ≡ u)
unfolding takes_pieces with_pieces
none_left u = (refl, refl)

pub took_all : (d : Durable) (s : Server) (all : List Piece) (i : ℕ) → length all ≤ i → TakesOn d s all (drop i all)
    → (true ≡ takes_pieces s (pieces_of all)) × (true ≡ true → DurableShown d (with_pieces s (pieces_of all)))
took_all d s all i end v =
    let none = drop_none all i end in (
      sym (v.3 ∙ ap (λ (ps : List Piece). takes_pieces v.0 (pieces_of ps)) none ∙ (none_left v.0).0),
      λ _. subst (λ (u : Server). DurableShown d u)
          (sym (v.4 ∙ ap (λ (ps : List Piece). with_pieces v.0 (pieces_of ps)) none ∙ (none_left v.0).1)) v.2,
    )

-- ---- what is refused

pub refused : (d : Durable) (s : Server) (p : SnapshotPiece) → false ≡ takes_piece s p → TookPiece d s p false
refused d s p h = (h, λ on. absurd (cc))

pub numbered : (s : Server) (version epoch given next : ℕ) (times : Basic) → is_unnumbered s ≡ false
    → false ≡ takes_piece s (BasePiece version epoch given next times)
numbered s version epoch given next times h = off_front (is_unnumbered s) _ h

begin_off : (u v e g n : Bool) → (v && (e && n)) ≡ false → false ≡ (u && (v && (e && (g && n))))
begin_off false v e g n h = refl
begin_off true false e g n h = refl
begin_off true true false g n h = refl
begin_off true true true false n h = refl
begin_off true true true true n h = sym h

pub not_begun : (s : Server) (version epoch given next : ℕ) (times : Basic) → ((version == 2) && (nat_lt 0 epoch && nat_lt 0 next)) ≡ false
    → false ≡ takes_piece s (BasePiece version epoch given next times)
not_begun s version epoch given next times h =
    begin_off (is_unnumbered s) (version == 2) (nat_lt 0 epoch) (nat_le given max_ids) (nat_lt 0 next) h

pub base_took : (d : Durable) (s : Server) (version epoch given next : ℕ) (times : Basic) → is_unnumbered s ≡ true
    → ((version == 2) && (nat_lt 0 epoch && nat_lt 0 next)) ≡ true → given < 2 ^ 32
    → DurableShown d (with_piece s (BasePiece 2 epoch given next times)) → TookPiece d s (BasePiece version epoch given next times) true
base_took d s version epoch given next times u may fits shown =
    let v : (version == 2) ≡ true = front_of (version == 2) _ may in
    let e : nat_lt 0 epoch ≡ true = front_of (nat_lt 0 epoch) _ (back_of (version == 2) _ may) in
    let n : nat_lt 0 next ≡ true = back_of (nat_lt 0 epoch) _ (back_of (version == 2) _ may) in
    let g : nat_le given max_ids ≡ true = few given fits in (
      sym (both (is_unnumbered s) _ u (both (version == 2) _ v (both (nat_lt 0 epoch) _ e (both (nat_le given max_ids) _ g n)))),
      λ on. subst (λ (k : ℕ). DurableShown d (with_piece s (BasePiece k epoch given next times))) (sym (eqb-true version 2 v)) shown,
    )
  where
    few : (n : ℕ) → n < 2 ^ 32 → nat_le n max_ids ≡ true
    few n l = grind (arith, nat_tests)

pub no_less_next : (s : Server) (next : ℕ) → is_unnumbered s ≡ true → nat_lt 0 next ≡ true → s.next_file ≤ next
unfolding is_unnumbered
no_less_next s next u n =
    let first : s.next_file ≡ 1 = eqb-true s.next_file 1 (back_of (s.open_ids_given == 0) _ (back_of (s.epoch == 0) _ u)) in
    grind (arith, nat_tests)

not_equal : (n m : ℕ) → (n ≡ m → ⊥) → (n == m) ≡ false
not_equal n m h = by (n == m) refl
  where
    by : (b : Bool) → (n == m) ≡ b → b ≡ false
    by true q = absurd (h (eqb-true n m q))
    by false q = refl

pub began : (s : Server) (epoch : ℕ) → s.epoch ≡ epoch → (epoch ≡ 0 → ⊥) → false ≡ is_unnumbered s
unfolding is_unnumbered
began s epoch e n = off_front (s.epoch == 0) _ (ap (λ (k : ℕ). k == 0) e ∙ not_equal epoch 0 n)

pub numbered_open : (s : Server) (given : ℕ) → given ≡ s.open_ids_given → (given ≡ 0 → ⊥) → false ≡ is_unnumbered s
unfolding is_unnumbered
numbered_open s given e n =
    off_back (s.epoch == 0) _ (sym (off_front (s.open_ids_given == 0) _ (ap (λ (k : ℕ). k == 0) (sym e) ∙ not_equal given 0 n)))

pub first_number : (s : Server) (next : ℕ) → s.epoch ≡ 0 → s.open_ids_given ≡ 0 → next ≡ s.next_file → (next == 1) ≡ is_unnumbered s
unfolding is_unnumbered
first_number s next e g h =
    let epoch : (s.epoch == 0) ≡ true = ap (λ (k : ℕ). k == 0) e in
    let given : (s.open_ids_given == 0) ≡ true = ap (λ (k : ℕ). k == 0) g in
    ap (λ (k : ℕ). k == 1) h
    ∙ sym (ap (λ (b : Bool). b && ((s.open_ids_given == 0) && (s.next_file == 1))) epoch ∙ ap (λ (b : Bool). b && (s.next_file == 1)) given)

pub beside : (s : Server) (f : ℕ) (path : List ℕ) (is_dir pending : Bool) (basic : Basic) (size stored : ℕ) → (stored == 0) ≡ false
    → false ≡ takes_piece s (FilePiece f path is_dir pending basic size stored)
beside s f path is_dir pending basic size stored n =
    off_back (may_place s f) _ (sym (off_back (may_name s path) _ (sym (off_back (has_size s size) (stored == 0) n))))

pub closed : (s : Server) (o : ℕ) (row : model.Open) → (exists s row.file && not (deletes_on_close row.options && (row.file == root))) ≡ false
    → false ≡ takes_piece s (OpenPiece o row)
unfolding may_stand
closed s o row h =
    off_front (may_stand s o row) _ (out (nat_lt 0 o) (not (s.standing o)) row.persistent (exists s row.file)
    (not (deletes_on_close row.options && (row.file == root))) (has_free_guid s row.client_guid row.create_guid) h)
  where
    out : (a b c d e f : Bool) → (d && e) ≡ false → (a && (b && (c && (d && (e && f))))) ≡ false
    out false b c d e f h = refl
    out true false c d e f h = refl
    out true true false d e f h = refl
    out true true true false e f h = refl
    out true true true true false f h = refl
    out true true true true true f h = absurd (cc)

pub none_beside : (stored : ℕ) → stored ≤ 0 → stored ≡ 0
none_beside stored h = omega (arith, h)
