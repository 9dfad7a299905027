-- A piece that is taken leads from a state that fits together to one that does, and keeps files in their order.
use Rattle.std.proofs.Common.{◌≡◌, ℕ, ◌<◌, ◌≤◌, ◌==◌, nat_le, nat_lt, Bool, true, false, not, ◌&&◌, ◌||◌, if◌then◌else◌, List, []}
use Rattle.std.proofs.Common.{◌∷◌, ◌++◌, Option, Some, None, is_some, slice_get, inl, inr, refl, sym, subst, ◌∙◌, arith, eqb-true}
use Rattle.std.proofs.lemmas.Bool.Decides.{nat_tests}
use Rattle.spec_exchange.specs.Table.{put}
use Rattle.spec_exchange.specs.Content.{written}
use Rattle.spec_exchange.specs.Commands.{Basic, deletes_on_close}
use Rattle.spec_exchange.specs.State.{Server, Entry, Open, Range}
use Rattle.spec_exchange.specs.Files.{root, exists, exists_in}
use Rattle.spec_exchange.specs.Opens.{id_of, max_ids}
use Rattle.spec_exchange.specs.Fold.{nothing_yet}
use Rattle.law_server.specs.tables.Fits.{Fits, is_ascending}
use Rattle.law_server.proofs.tables.AddOpen.{add_open_keeps}
use Rattle.law_server.proofs.tables.Applied.{add_expired_guid_keeps, keep_slot_keeps}
use Rattle.law_server.proofs.tables.FileEffects.{set_ranges_keeps}
use Rattle.law_server.proofs.tables.Lists.{pushed-from}
use Rattle.law_server.proofs.tables.Logic.{either, front_of, back_of, none_of, not_true}
use Rattle.law_server.proofs.tables.SessionEffects.{unread_keeps}
use Rattle.law_records.specs.fold.Order.{FilesAscend, numbers}
use Rattle.law_snapshots.specs.snapshots.Pieces.{SnapshotPiece, BasePiece, FilePiece, BytesPiece, OpenPiece, SlotPiece, RangePiece, GuidPiece}
use Rattle.law_snapshots.specs.snapshots.Pieces.{has_free_guid, may_place, may_stand, place_file, push_range, unfolded, with_piece, with_pieces}
use Rattle.law_snapshots.specs.snapshots.Taken.{is_unnumbered, takes_piece, takes_pieces}
use Rattle.law_snapshots.proofs.snapshots.Files.{behind_both}
use Rattle.law_snapshots.proofs.snapshots.Fitting.{none_fits, placed_apart, put_at_root, stood_apart, other_file}
use Rattle.law_snapshots.proofs.snapshots.Order.{exists_placed, placed_ascends}

-- what was kept, where the guard holds
pub where_on : (P : Server → Type 0) (b : Bool) (x y : Server) → b ≡ true → P x → P (if b then x else y)
where_on P b x y e h = subst (λ (k : Bool). P (if k then x else y)) (sym e) h

-- ---- the numbers

equal_of : (n m : ℕ) → (n == m) ≡ true → n ≡ m
equal_of n m e = eqb-true n m e

no_id : (epoch given o : ℕ) → epoch ≡ 0 → given ≡ 0 → 0 < o → o ≤ id_of epoch given → ⊥
no_id epoch given o e g l h = omega (arith, e, g, l, h)

raised : (old new given x : ℕ) → old ≡ 0 → x ≤ id_of old given → x ≤ id_of new given
raised old new given x e h = omega (arith, e, h)

no_number : (next f : ℕ) → next ≡ 1 → 0 < f → f < next → ⊥
no_number next f e l h = omega (arith, e, l, h)

less_of : (n m : ℕ) → nat_lt n m ≡ true → n < m
less_of n m h = grind (arith, nat_tests)

most_of : (n m : ℕ) → nat_le n m ≡ true → n ≤ m
most_of n m h = grind (arith, nat_tests)

base_fits : (s : Server) (version epoch given next : ℕ) (times : Basic) → Fits s → is_unnumbered s ≡ true
    → ((version == 2) && (nat_lt 0 epoch && (nat_le given max_ids && nat_lt 0 next))) ≡ true
    → Fits (with_piece s (BasePiece version epoch given next times))
unfolding is_unnumbered exists
base_fits s version epoch given next times i u h =
    let no_epoch : s.epoch ≡ 0 = equal_of s.epoch 0 (front_of (s.epoch == 0) _ u) in
    let rest = back_of (s.epoch == 0) _ u in
    let none_given : s.open_ids_given ≡ 0 = equal_of s.open_ids_given 0 (front_of (s.open_ids_given == 0) _ rest) in
    let first : s.next_file ≡ 1 = equal_of s.next_file 1 (back_of (s.open_ids_given == 0) _ rest) in
    let counts = back_of (nat_lt 0 epoch) _ (back_of (version == 2) _ h) in
    record {
      attached = i.attached;
      plain_attached = i.plain_attached;
      guid_open = i.guid_open;
      open_guid = i.open_guid;
      persistent_guid = i.persistent_guid;
      deadlines = i.deadlines;
      listed = i.listed;
      ascending = i.ascending;
      open_ids = λ o st.
          let p = i.open_ids o st in absurd (no_id s.epoch s.open_ids_given o no_epoch none_given p.0 p.1);
      given = most_of given max_ids (front_of (nat_le given max_ids) _ counts);
      begun = i.begun;
      session_ids = λ x st. let p = i.session_ids x st in (p.0, raised s.epoch epoch s.session_ids_given x no_epoch p.1);
      making_ids = λ k x m. let p = i.making_ids k x m in (p.0, raised s.epoch epoch s.session_ids_given x no_epoch p.1, p.2);
      making_once = i.making_once;
      on_present = i.on_present;
      on_made = i.on_made;
      no_trees = i.no_trees;
      no_closed = i.no_closed;
      no_refused = i.no_refused;
      no_guids = i.no_guids;
      next_tree = i.next_tree;
      tree_ids = i.tree_ids;
      range_owners = i.range_owners;
      not_root = i.not_root;
      root_stays = i.root_stays;
      open_files = i.open_files;
      next_file = less_of 0 next (back_of (nat_le given max_ids) _ counts);
      file_numbers = λ f st.
          let p = i.file_numbers f st in absurd (no_number s.next_file f first p.0 p.1);
      room = i.room;
      limit = i.limit;
    }

-- ---- a file

empty_put : (ranges : ℕ → List Range) (f y n : ℕ) (r : Range) → slice_get (put ranges f [] y) n ≡ Some r → slice_get (ranges y) n ≡ Some r
empty_put ranges f y n r e = by (y == f) e
  where
    none : (n : ℕ) → slice_get [] n ≡ Some r → slice_get (ranges y) n ≡ Some r
    none n h = absurd (cc)

    by : (b : Bool) → slice_get (if b then [] else ranges y) n ≡ Some r → slice_get (ranges y) n ≡ Some r
    by true h = none n h
    by false h = h

still_there : (e : Entry) (es : List Entry) (f : ℕ) → exists_in es f ≡ true → (if e.file == f then true else exists_in es f) ≡ true
still_there e es f h = by (e.file == f)
  where
    by : (b : Bool) → (if b then true else exists_in es f) ≡ true
    by true = refl
    by false = h

or_there : (a b c : Bool) → (b ≡ true → c ≡ true) → (a || b) ≡ true → (a || c) ≡ true
or_there true b c f h = refl
or_there false b c f h = f h

numbered : (e f next : ℕ) (es : Bool) → 0 < e → e < next → (es ≡ true → 0 < f × f < next) → (if e == f then true else es) ≡ true
    → 0 < f × f < next
numbered e f next es l m old h = by (e == f) refl h
  where
    by : (b : Bool) → (e == f) ≡ b → (if b then true else es) ≡ true → 0 < f × f < next
    by true q k = subst (λ (g : ℕ). 0 < g × g < next) (eqb-true e f q) (l, m)
    by false q k = old k

file_fits : (s : Server) (f : ℕ) (path : List ℕ) (is_dir pending : Bool) (basic : Basic) (size stored : ℕ) → Fits s → may_place s f ≡ true
    → Fits (place_file s f path is_dir pending basic size stored)
unfolding exists may_place
file_fits s f path is_dir pending basic size stored i may =
    let e : Entry = record { file = f; path = path } in
    let some : 0 < f = less_of 0 f (front_of (nat_lt 0 f) _ may) in
    let next : f < s.next_file = less_of f s.next_file (front_of (nat_lt f s.next_file) _ (back_of (nat_lt 0 f) _ may)) in
    record {
      attached = i.attached;
      plain_attached = i.plain_attached;
      guid_open = i.guid_open;
      open_guid = i.open_guid;
      persistent_guid = i.persistent_guid;
      deadlines = i.deadlines;
      listed = i.listed;
      ascending = i.ascending;
      open_ids = i.open_ids;
      given = i.given;
      begun = i.begun;
      session_ids = i.session_ids;
      making_ids = i.making_ids;
      making_once = i.making_once;
      on_present = i.on_present;
      on_made = i.on_made;
      no_trees = i.no_trees;
      no_closed = i.no_closed;
      no_refused = i.no_refused;
      no_guids = i.no_guids;
      next_tree = i.next_tree;
      tree_ids = i.tree_ids;
      range_owners = λ y n r h. i.range_owners y n r (empty_put s.ranges f y n r h);
      not_root = i.not_root;
      root_stays = put_at_root s.delete_pending f pending (placed_apart s f may) i.root_stays;
      open_files = λ o st. or_there ((s.opened o).file == root) (exists_in s.entries (s.opened o).file) _
          (λ h. exists_placed e s.entries (s.opened o).file ∙ still_there e s.entries (s.opened o).file h) (i.open_files o st);
      next_file = i.next_file;
      file_numbers = λ g h. numbered f g s.next_file (exists_in s.entries g) some next (i.file_numbers g)
          (sym (exists_placed e s.entries g) ∙ h);
      room = i.room;
      limit = i.limit;
    }

-- ---- an open

no_guid : (s : Server) (client g : ℕ) (v : Option ℕ) → has_free_guid s client v ≡ true → v ≡ Some g → s.by_guid client g ≡ None
unfolding has_free_guid
no_guid s client g None h e = absurd (cc)
no_guid s client g (Some k) h e =
    let same : k ≡ g = grind arith in
    subst (λ (x : ℕ). s.by_guid client x ≡ None) same (none_of (s.by_guid client k) (not_true (is_some (s.by_guid client k)) h))

a_guid : (s : Server) (client : ℕ) (v : Option ℕ) → has_free_guid s client v ≡ true → is_some v ≡ true
unfolding has_free_guid
a_guid s client None h = absurd (cc)
a_guid s client (Some k) h = refl

no_some : {X : Type 0} (x : ℕ) → None ≡ Some x → X
no_some x h = absurd (cc)

off_on : {X : Type 0} (b : Bool) → b ≡ true → b ≡ false → X
off_on b e f = absurd (cc)

no_more : (n : ℕ) → n ≤ n
no_more n = omega arith

stand_parts : (o : ℕ) (stands persistent there root_closed free : Bool)
    → (nat_lt 0 o && (not stands && (persistent && (there && (not root_closed && free))))) ≡ true
    → (nat_lt 0 o ≡ true) × (stands ≡ false) × (persistent ≡ true) × (there ≡ true) × (free ≡ true)
stand_parts o stands persistent there root_closed free h =
    let a = back_of (nat_lt 0 o) _ h in
    let b = back_of (not stands) _ a in
    let c = back_of persistent _ b in
    let d = back_of there _ c in
    (front_of (nat_lt 0 o) _ h, not_true stands (front_of (not stands) _ a), front_of persistent _ b, front_of there _ c, back_of (not root_closed) _ d)

open_fits : (s : Server) (o : ℕ) (row : Open) → Fits s → may_stand s o row ≡ true → nat_le o (id_of s.epoch s.open_ids_given) ≡ true
    → Fits (with_piece s (OpenPiece o row))
unfolding may_stand
open_fits s o row i may l =
    let p = stand_parts o (s.standing o) row.persistent (exists s row.file) (deletes_on_close row.options && (row.file == root))
    (has_free_guid s row.client_guid row.create_guid) may in
    where_on (λ x. Fits x) (may_stand s o row) _ s may
    (add_open_keeps s o row None 0 s.open_ids_given s.guids s.tree_of_open p.1 (less_of 0 o p.0)
    (most_of o (id_of s.epoch s.open_ids_given) l) (no_more s.open_ids_given) i.given (λ x h. no_some x h)
    (λ h. off_on row.persistent p.2 h) (λ g e. no_guid s row.client_guid g row.create_guid p.4 e)
    (λ _. a_guid s row.client_guid row.create_guid p.4) p.3
    (λ d. other_file (deletes_on_close row.options) row.file (stood_apart s o row may) d) i.no_guids i)

-- ---- a range

range_fits : (s : Server) (r : Range) → Fits s → s.standing r.owner ≡ true → Fits (with_piece s (RangePiece r))
range_fits s r i st =
    where_on (λ x. Fits x) (s.standing r.owner) (push_range s (s.opened r.owner).file r) s st
    (set_ranges_keeps s (s.opened r.owner).file (s.ranges (s.opened r.owner).file ++ r ∷ []) (λ n x h.
    elim (pushed-from (s.ranges (s.opened r.owner).file) r n x h) [
      | inl e ↦ subst (λ (y : Range). s.standing y.owner ≡ true × (s.opened y.owner).file ≡ (s.opened r.owner).file) e (st, refl)
      | inr a ↦ i.range_owners (s.opened r.owner).file a.0 x a.1
    ]) i)

-- ---- any piece

pub piece_fits : (s : Server) (p : SnapshotPiece) → Fits s → takes_piece s p ≡ true → Fits (with_piece s p)
piece_fits s (BasePiece version epoch given next times) i h =
    base_fits s version epoch given next times i (front_of (is_unnumbered s) _ h) (back_of (is_unnumbered s) _ h)
piece_fits s (FilePiece f path is_dir pending basic size stored) i h =
    let may : may_place s f ≡ true = front_of (may_place s f) _ h in
    where_on (λ x. Fits x) (may_place s f) (place_file s f path is_dir pending basic size stored) s may
    (file_fits s f path is_dir pending basic size stored i may)
piece_fits s (BytesPiece f at bytes) i h =
    where_on (λ x. Fits x) (exists_in s.entries f) _ s (front_of (exists_in s.entries f) _ h)
    (unread_keeps s s.sequence s.lock_sequences s.enumeration_location s.current_byte_offset
    (put s.content f (written at bytes (s.content f))) s.basic s.connections s.expired_guids s.expired_count s.version s.journal i)
piece_fits s (OpenPiece o row) i h = open_fits s o row i (front_of (may_stand s o row) _ h) (back_of (may_stand s o row) _ h)
piece_fits s (SlotPiece o index number status) i h =
    where_on (λ x. Fits x) (s.standing o) _ s (front_of (s.standing o) _ h) (keep_slot_keeps s o index number status i)
piece_fits s (RangePiece r) i h = range_fits s r i h
piece_fits s (GuidPiece client create) i h = add_expired_guid_keeps s client (Some create) i

-- ---- files in their order

file_ascends : (s : Server) (f : ℕ) (path : List ℕ) (is_dir pending : Bool) (basic : Basic) (size stored : ℕ) → FilesAscend s
    → may_place s f ≡ true → FilesAscend (place_file s f path is_dir pending basic size stored)
unfolding may_place
file_ascends s f path is_dir pending basic size stored a may =
    placed_ascends (record { file = f; path = path }) s.entries a
    (not_true (exists_in s.entries f) (back_of (nat_lt f s.next_file) _ (back_of (nat_lt 0 f) _ may)))

pub piece_ascends : (s : Server) (p : SnapshotPiece) → FilesAscend s → takes_piece s p ≡ true → FilesAscend (with_piece s p)
piece_ascends s (BasePiece version epoch given next times) a h = a
piece_ascends s (FilePiece f path is_dir pending basic size stored) a h =
    let may : may_place s f ≡ true = front_of (may_place s f) _ h in
    where_on (λ x. FilesAscend x) (may_place s f) (place_file s f path is_dir pending basic size stored) s may
    (file_ascends s f path is_dir pending basic size stored a may)
piece_ascends s (BytesPiece f at bytes) a h = either (λ x. FilesAscend x) (exists_in s.entries f) _ s (λ _. a) (λ _. a)
piece_ascends s (OpenPiece o row) a h = either (λ x. FilesAscend x) (may_stand s o row) _ s (λ _. a) (λ _. a)
piece_ascends s (SlotPiece o index number status) a h =
    either (λ x. FilesAscend x) (s.standing o) _ s (λ _. either (λ x. FilesAscend x) (Rattle.spec_exchange.specs.CheckOpen.is_slot index) _ s (λ _. a) (λ _. a)) (λ _. a)
piece_ascends s (RangePiece r) a h = either (λ x. FilesAscend x) (s.standing r.owner) _ s (λ _. a) (λ _. a)
piece_ascends s (GuidPiece client create) a h = a

-- ---- pieces, one behind the other

pieces_fit : (s : Server) (ps : List SnapshotPiece) → Fits s → FilesAscend s → takes_pieces s ps ≡ true
    → Fits (with_pieces s ps) × FilesAscend (with_pieces s ps)
unfolding with_pieces takes_pieces
pieces_fit s [] i a h = (i, a)
pieces_fit s (p ∷ ps) i a h =
    let one = front_of (takes_piece s p) _ h in
    pieces_fit (with_piece s p) ps (piece_fits s p i one) (piece_ascends s p a one) (back_of (takes_piece s p) _ h)

pub unfolded_fits : Fits nothing_yet → (base : List SnapshotPiece) (stored : ℕ → List ℕ) → takes_pieces (unfolded [] stored) base ≡ true
    → Fits (unfolded base stored) × FilesAscend (unfolded base stored)
unfolding with_pieces is_ascending numbers
unfolded_fits none base stored h = pieces_fit (record nothing_yet { stored = stored }) base (none_fits none stored) ascends h
  where
    ascends : FilesAscend (record nothing_yet { stored = stored })
    ascends = refl

-- ---- in two parts

pub taken_both : (s : Server) (ps qs : List SnapshotPiece) → takes_pieces s (ps ++ qs) ≡ (takes_pieces s ps && takes_pieces (with_pieces s ps) qs)
unfolding with_pieces takes_pieces
taken_both s [] qs = refl
taken_both s (p ∷ ps) qs = by (takes_piece s p) (taken_both (with_piece s p) ps qs)
  where
    by : (b : Bool) → takes_pieces (with_piece s p) (ps ++ qs)
        ≡ (takes_pieces (with_piece s p) ps && takes_pieces (with_pieces (with_piece s p) ps) qs)
        → (b && takes_pieces (with_piece s p) (ps ++ qs))
        ≡ ((b && takes_pieces (with_piece s p) ps) && takes_pieces (with_pieces (with_piece s p) ps) qs)
    by true h = h
    by false h = refl

pub parts_joined : (s : Server) (ps qs : List SnapshotPiece) → (with_pieces s (ps ++ qs) ≡ with_pieces (with_pieces s ps) qs)
    × (takes_pieces s (ps ++ qs) ≡ (takes_pieces s ps && takes_pieces (with_pieces s ps) qs))
parts_joined s ps qs = (behind_both s ps qs, taken_both s ps qs)
