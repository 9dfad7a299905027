-- What a snapshot stands for of a server that fits together fits together too.
use Rattle.std.proofs.Common.{◌≡◌, ◌≢◌, ℕ, ◌≤◌, ◌<◌, ◌==◌, nat_lt, Bool, true, false, not, ◌&&◌, ◌||◌, if◌then◌else◌, List, [], ◌∷◌}
use Rattle.std.proofs.Common.{Option, Some, None, is_some, slice_get, zero, suc, refl, sym, ap, subst, ◌∙◌, arith}
use Rattle.std.proofs.lemmas.Bool.Decides.{nat_tests}
use Rattle.spec_exchange.specs.Table.{has, put}
use Rattle.spec_exchange.specs.Content.{written}
use Rattle.spec_exchange.specs.Commands.{deletes_on_close}
use Rattle.spec_exchange.specs.State.{Server, Entry, Open, Range}
use Rattle.spec_exchange.specs.Files.{root, exists, exists_in}
use Rattle.spec_exchange.specs.Opens.{add_open, id_of, max_ids}
use Rattle.spec_exchange.specs.Effects.{keep_slot}
use Rattle.spec_exchange.specs.CheckOpen.{is_slot}
use Rattle.spec_exchange.specs.Records.{lower_limit}
use Rattle.spec_exchange.specs.Fold.{full_room, nothing_yet, ranges_that_stay, stays, stays_by_guid}
use Rattle.law_server.specs.tables.Fits.{Fits, NotRoot, RootStays, is_ascending}
use Rattle.law_server.proofs.tables.Logic.{either, front_of, back_of}
use Rattle.law_records.specs.fold.Order.{FilesAscend, numbers}
use Rattle.law_records.specs.recovery.Restarted.{Bare}
use Rattle.law_records.proofs.recovery.Lists.{has_persistent}
use Rattle.law_snapshots.specs.snapshots.Kept.{IsOrderOf, Keeps, ListsGuids, TellsBytes}
use Rattle.law_snapshots.specs.snapshots.Pieces.{SnapshotPiece, BasePiece, FilePiece, BytesPiece, OpenPiece, SlotPiece, RangePiece, GuidPiece}
use Rattle.law_snapshots.specs.snapshots.Pieces.{FileBytes, has_free_guid, may_place, may_stand, place_file, push_range, snapshot, snapshot_in, unfolded, with_piece}
use Rattle.law_snapshots.specs.snapshots.Pieces.{with_pieces}
use Rattle.law_snapshots.proofs.restarts.Sessionless.{bare_unfolded}
use Rattle.law_snapshots.proofs.snapshots.Opens.{ascending_persistent}
use Rattle.law_snapshots.proofs.snapshots.Ranges.{AllOwned, file_in, stay_owned}
use Rattle.law_snapshots.proofs.snapshots.Order.{order_itself}
use Rattle.law_snapshots.proofs.snapshots.Whole.{order_given, order_keeps}

-- ---- what no piece touches

pub record Rooted (d : Server) : Type 0 where
  pub not_root : NotRoot d
  pub root_stays : RootStays d
  pub begun : d.session_ids_given ≡ 0
  pub limit : d.limit ≡ lower_limit

apart_root : (f : ℕ) → nat_lt 0 f ≡ true → (0 == f) ≡ false
apart_root f h = grind (arith, nat_tests)

pub placed_apart : (s : Server) (f : ℕ) → may_place s f ≡ true → (0 == f) ≡ false
unfolding may_place
placed_apart s f h = apart_root f (front_of (nat_lt 0 f) _ h)

pub put_at_root : (p : ℕ → Bool) (f : ℕ) (v : Bool) → (0 == f) ≡ false → p 0 ≡ false → put p f v 0 ≡ false
put_at_root p f v e h = rw e h

not_both : (a b c d e f : Bool) → (a && (b && (c && (d && (not e && f))))) ≡ true → e ≡ false
not_both a b c d true f h = absurd (grind arith)
not_both a b c d false f h = refl

pub stood_apart : (s : Server) (o : ℕ) (row : Open) → may_stand s o row ≡ true → (deletes_on_close row.options && (row.file == root)) ≡ false
unfolding may_stand
stood_apart s o row h = not_both (nat_lt 0 o) (not (s.standing o)) row.persistent (exists s row.file)
    (deletes_on_close row.options && (row.file == root)) (has_free_guid s row.client_guid row.create_guid) h

pub other_file : (a : Bool) (f : ℕ) → (a && (f == 0)) ≡ false → a ≡ true → f ≢ 0
other_file true f h e q = let t : (f == 0) ≡ true = grind arith in cc
other_file false f h e q = cc

rooted_opened : (s : Server) (o : ℕ) (row : Open) → may_stand s o row ≡ true → Rooted s → Rooted (add_open s o row None 0)
rooted_opened s o row may h = record {
  not_root = λ p e. by p (p == o) e;
  root_stays = h.root_stays;
  begun = h.begun;
  limit = h.limit;
}
  where
    by : (p : ℕ) (b : Bool) → deletes_on_close (if b then row else s.opened p).options ≡ true → (if b then row else s.opened p).file ≢ root
    by p true e = other_file (deletes_on_close row.options) row.file (stood_apart s o row may) e
    by p false e = h.not_root p e

rooted_piece : (s : Server) (p : SnapshotPiece) → Rooted s → Rooted (with_piece s p)
rooted_piece s (BasePiece version epoch given next times) h =
    record { not_root = h.not_root; root_stays = h.root_stays; begun = h.begun; limit = h.limit }
rooted_piece s (FilePiece f path is_dir pending basic size stored) h =
    either (λ x. Rooted x) (may_place s f) (place_file s f path is_dir pending basic size stored) s
    (λ may. record {
      not_root = h.not_root;
      root_stays = put_at_root s.delete_pending f pending (placed_apart s f may) h.root_stays;
      begun = h.begun;
      limit = h.limit;
    }) (λ _. h)
rooted_piece s (BytesPiece f at bytes) h =
    either (λ x. Rooted x) (exists_in s.entries f) (record s { content = put s.content f (written at bytes (s.content f)) }) s
    (λ _. record { not_root = h.not_root; root_stays = h.root_stays; begun = h.begun; limit = h.limit }) (λ _. h)
rooted_piece s (OpenPiece o row) h =
    either (λ x. Rooted x) (may_stand s o row) (add_open s o row None 0) s (λ may. rooted_opened s o row may h) (λ _. h)
rooted_piece s (SlotPiece o index number status) h =
    either (λ x. Rooted x) (s.standing o) (keep_slot s o index number status) s
    (λ _. either (λ x. Rooted x) (is_slot index) _ s
    (λ _. record { not_root = h.not_root; root_stays = h.root_stays; begun = h.begun; limit = h.limit }) (λ _. h)) (λ _. h)
rooted_piece s (RangePiece r) h =
    either (λ x. Rooted x) (s.standing r.owner) (push_range s (s.opened r.owner).file r) s
    (λ _. record { not_root = h.not_root; root_stays = h.root_stays; begun = h.begun; limit = h.limit }) (λ _. h)
rooted_piece s (GuidPiece client create) h =
    record { not_root = h.not_root; root_stays = h.root_stays; begun = h.begun; limit = h.limit }

rooted_pieces : (s : Server) (ps : List SnapshotPiece) → Rooted s → Rooted (with_pieces s ps)
unfolding with_pieces
rooted_pieces s [] h = h
rooted_pieces s (p ∷ ps) h = rooted_pieces (with_piece s p) ps (rooted_piece s p h)

-- ---- what is stored beside the journal is no part of what fits

stored_fits : (stored : ℕ → List ℕ) → Fits nothing_yet → Fits (record nothing_yet { stored = stored })
unfolding exists
stored_fits stored i = record {
  attached = i.attached;
  plain_attached = i.plain_attached;
  guid_open = i.guid_open;
  open_guid = i.open_guid;
  persistent_guid = i.persistent_guid;
  deadlines = i.deadlines;
  listed = i.listed;
  ascending = i.ascending;
  open_ids = i.open_ids;
  given = i.given;
  begun = i.begun;
  session_ids = i.session_ids;
  making_ids = i.making_ids;
  making_once = i.making_once;
  on_present = i.on_present;
  on_made = i.on_made;
  no_trees = i.no_trees;
  no_closed = i.no_closed;
  no_refused = i.no_refused;
  no_guids = i.no_guids;
  next_tree = i.next_tree;
  tree_ids = i.tree_ids;
  range_owners = i.range_owners;
  not_root = i.not_root;
  root_stays = i.root_stays;
  open_files = i.open_files;
  next_file = i.next_file;
  file_numbers = i.file_numbers;
  room = i.room;
  limit = i.limit;
}

pub none_fits : Fits nothing_yet → (stored : ℕ → List ℕ) → Fits (unfolded [] stored)
unfolding with_pieces
none_fits i stored = stored_fits stored i

rooted_unfolded : Fits nothing_yet → (ps : List SnapshotPiece) (stored : ℕ → List ℕ) → Rooted (unfolded ps stored)
rooted_unfolded i ps stored = rooted_pieces (record nothing_yet { stored = stored }) ps
    (record { not_root = i.not_root; root_stays = refl; begun = refl; limit = refl })

-- ---- what is kept of a state that fits together

no_option : {X : Type 0} (v : Option X) (x : X) → v ≡ None → v ≡ Some x → ⊥
no_option v x e f = cc

clash : (b : Bool) → b ≡ false → b ≡ true → ⊥
clash b e f = cc

no_element : {X : Type 0} (ts : List X) (n : ℕ) (t : X) → ts ≡ [] → slice_get ts n ≡ Some t → ⊥
no_element ts n t e h = let z = subst (λ (l : List _). slice_get l n ≡ Some t) e h in cc

nought : (n : ℕ) → 0 ≤ n
nought n = omega arith

no_more : (n : ℕ) → n ≤ n
no_more n = omega arith

-- each range of such a list is of an open of this file
owned_at : (standing : ℕ → Bool) (file : ℕ → ℕ) (f : ℕ) (rs : List Range) (n : ℕ) (r : Range) → AllOwned standing file f rs
    → slice_get rs n ≡ Some r → (standing r.owner ≡ true) × (file r.owner ≡ f)
owned_at standing file f [] n r h e = absurd (cc)
owned_at standing file f (x ∷ xs) zero r h e =
    let same : x ≡ r = some_same x r e in
    subst (λ (y : Range). (standing y.owner ≡ true) × (file y.owner ≡ f)) same (h.0, h.1)
  where
    some_same : (x y : Range) → Some x ≡ Some y → x ≡ y
    some_same x y e = cc
owned_at standing file f (x ∷ xs) (suc n) r h e = owned_at standing file f xs n r h.2 e

module _ (s d : Server) (k : Keeps d s) (i : Fits s) (b : Bare d) (r : Rooted d) (given : d.open_ids_given ≡ s.open_ids_given) where
  stay : (o : ℕ) → d.standing o ≡ true → stays s o ≡ true
  stay o h = sym (k.opens.standing o) ∙ h

  stood : (o : ℕ) → d.standing o ≡ true → s.standing o ≡ true
  stood o h = front_of (s.standing o) (s.opened o).persistent (stay o h)

  named : (v : Option ℕ) (o : ℕ) → stays_by_guid s v ≡ Some o → (v ≡ Some o) × (stays s o ≡ true)
  named None o h = absurd (cc)
  named (Some p) o h = by (stays s p) refl
    where
      some_same : (x y : ℕ) → Some x ≡ Some y → x ≡ y
      some_same x y e = cc

      by : (c : Bool) → stays s p ≡ c → (Some p ≡ Some o) × (stays s o ≡ true)
      by true q =
          let same : p ≡ o = some_same p o (subst (λ (c : Bool). (if c then Some p else None) ≡ Some o) q h) in
          (ap (λ (x : ℕ). Some x) same, sym (ap (λ (x : ℕ). stays s x) same) ∙ q)
      by false q = absurd (let z : None ≡ Some o = subst (λ (c : Bool). (if c then Some p else None) ≡ Some o) q h in cc)

  same_exists : (f : ℕ) → exists d f ≡ exists s f
  unfolding exists
  same_exists f = ap (λ (es : List Entry). (f == root) || exists_in es f) k.files.entries

  guid_is : (c g o : ℕ) → d.by_guid c g ≡ Some o → d.standing o ≡ true × (d.opened o).client_guid ≡ c × (d.opened o).create_guid ≡ Some g
  guid_is c g o h =
      let n = named (s.by_guid c g) o (sym (k.opens.by_guid c g) ∙ h) in
      let q = i.guid_open c g o n.0 in
      let w : d.opened o ≡ s.opened o = k.opens.opened o n.1 in
      (k.opens.standing o ∙ n.1, ap (λ (x : Open). x.client_guid) w ∙ q.1, ap (λ (x : Open). x.create_guid) w ∙ q.2)

  is_guid : (o g : ℕ) → d.standing o ≡ true → (d.opened o).create_guid ≡ Some g → d.by_guid (d.opened o).client_guid g ≡ Some o
  is_guid o g st h =
      let y = stay o st in
      let w : d.opened o ≡ s.opened o = k.opens.opened o y in
      let n : s.by_guid (s.opened o).client_guid g ≡ Some o = i.open_guid o g (stood o st) (sym (ap (λ (x : Open). x.create_guid) w) ∙ h) in
      ap (λ (x : Open). d.by_guid x.client_guid g) w ∙ k.opens.by_guid (s.opened o).client_guid g
      ∙ ap (λ (v : Option ℕ). stays_by_guid s v) n
      ∙ ap (λ (c : Bool). if c then Some o else None) y

  persists : (o : ℕ) → d.standing o ≡ true → (d.opened o).persistent ≡ true
  persists o st = ap (λ (w : Open). w.persistent) (k.opens.opened o (stay o st))
      ∙ back_of (s.standing o) (s.opened o).persistent (stay o st)

  is_listed : (o : ℕ) → has o d.opens ≡ d.standing o
  is_listed o = ap (λ (os : List ℕ). has o os) k.opens.opens ∙ has_persistent s.opened o s.opens
      ∙ ap (λ (c : Bool). c && (s.opened o).persistent) (i.listed o) ∙ sym (k.opens.standing o)

  ids : (o : ℕ) → d.standing o ≡ true → 0 < o × o ≤ id_of d.epoch d.open_ids_given
  ids o st =
      let p = i.open_ids o (stood o st) in
      let same : id_of s.epoch s.open_ids_given ≡ id_of d.epoch d.open_ids_given =
      ap (λ (n : ℕ). id_of n s.open_ids_given) (sym k.counts.epoch) ∙ ap (λ (n : ℕ). id_of d.epoch n) (sym given) in
      (p.0, subst (λ (n : ℕ). o ≤ n) same p.1)

  owners : (f n : ℕ) (x : Range) → slice_get (d.ranges f) n ≡ Some x → d.standing x.owner ≡ true × (d.opened x.owner).file ≡ f
  owners f n x h =
      owned_at d.standing (file_in d) f (ranges_that_stay s (s.ranges f)) n x
      (stay_owned s d f (s.ranges f) (i.range_owners f)
      (λ o e. (k.opens.standing o ∙ e, ap (λ (w : Open). w.file) (k.opens.opened o e))))
      (sym (ap (λ (l : List Range). slice_get l n) (k.opens.ranges f)) ∙ h)

  files_there : (o : ℕ) → d.standing o ≡ true → exists d (d.opened o).file ≡ true
  files_there o st = ap (λ (w : Open). exists d w.file) (k.opens.opened o (stay o st)) ∙ same_exists (s.opened o).file
      ∙ i.open_files o (stood o st)

  numbered : (f : ℕ) → exists_in d.entries f ≡ true → 0 < f × f < d.next_file
  numbered f h =
      let p = i.file_numbers f (sym (ap (λ (es : List Entry). exists_in es f) k.files.entries) ∙ h) in
      (p.0, subst (λ (n : ℕ). f < n) (sym k.files.next_file) p.1)

  pub kept_fits : Fits d
  kept_fits = record {
    attached = λ o x h. absurd (no_option (d.session_of_open o) x (b.apart o) h);
    plain_attached = λ o st pl. absurd (clash (d.opened o).persistent pl (persists o st));
    guid_open = guid_is;
    open_guid = is_guid;
    persistent_guid = λ o st pe. ap (λ (w : Open). is_some w.create_guid) (k.opens.opened o (stay o st))
        ∙ i.persistent_guid o (stood o st) (back_of (s.standing o) (s.opened o).persistent (stay o st));
    deadlines = λ o t h. b.apart o;
    listed = is_listed;
    ascending = ap (λ (os : List ℕ). is_ascending os) k.opens.opens ∙ ascending_persistent s.opened s.opens i.ascending;
    open_ids = ids;
    given = subst (λ (n : ℕ). n ≤ max_ids) (sym given) i.given;
    begun = subst (λ (n : ℕ). n ≤ max_ids) (sym r.begun) (nought max_ids);
    session_ids = λ x h. absurd (clash (d.present x) (b.absent x) h);
    making_ids = λ j x h. absurd (no_option (d.making j) _ (b.unmade j) h);
    making_once = λ j l x h e. absurd (no_option (d.making j) _ (b.unmade j) h);
    on_present = λ j x h. absurd (no_option (d.session_on j) x (b.off j) h);
    on_made = λ j x h. b.unmade j;
    no_trees = λ x h. b.no_trees x;
    no_closed = λ x g h. b.unclosed x g;
    no_refused = λ x g h. b.unrefused x g;
    no_guids = λ x h. b.no_guids x;
    next_tree = λ x h. absurd (clash (d.present x) (b.absent x) h);
    tree_ids = λ x n t h. absurd (no_element (d.trees x) n t (b.no_trees x) h);
    range_owners = owners;
    not_root = r.not_root;
    root_stays = r.root_stays;
    open_files = files_there;
    next_file = subst (λ (n : ℕ). 0 < n) (sym k.files.next_file) i.next_file;
    file_numbers = numbered;
    room = subst (λ (n : ℕ). n ≤ full_room) (sym k.counts.full) (no_more full_room);
    limit = r.limit;
  }

pub order_fits : Fits nothing_yet → (s : Server) (stored : ℕ → List ℕ) (held : ℕ → FileBytes) (guids : List (ℕ × ℕ)) (order : List Entry) → Fits s → FilesAscend s
    → TellsBytes (record s { stored = stored }) held → ListsGuids s guids → IsOrderOf order s.entries → Fits (unfolded (snapshot_in s held guids order) stored)
order_fits none s stored held guids order i ascend told lists n =
    kept_fits s (unfolded (snapshot_in s held guids order) stored) (order_keeps s stored held guids order i ascend told lists n) i
    (bare_unfolded (snapshot_in s held guids order) stored) (rooted_unfolded none (snapshot_in s held guids order) stored)
    (order_given s stored held guids order i ascend told n)

pub order_ascends : (s : Server) (stored : ℕ → List ℕ) (held : ℕ → FileBytes) (guids : List (ℕ × ℕ)) (order : List Entry) → Fits s → FilesAscend s
    → TellsBytes (record s { stored = stored }) held → ListsGuids s guids → IsOrderOf order s.entries → FilesAscend (unfolded (snapshot_in s held guids order) stored)
order_ascends s stored held guids order i ascend told lists n =
    ap (λ (es : List Entry). is_ascending (numbers es)) (order_keeps s stored held guids order i ascend told lists n).files.entries ∙ ascend

pub snapshot_fits : Fits nothing_yet → (s : Server) (held : ℕ → FileBytes) (guids : List (ℕ × ℕ)) → Fits s → FilesAscend s
    → TellsBytes s held
    → ListsGuids s guids → Fits (unfolded (snapshot s held guids) s.stored)
snapshot_fits none s held guids i ascend told lists =
    order_fits none s s.stored held guids s.entries i ascend told lists (order_itself s.entries ascend)

pub snapshot_ascends : (s : Server) (held : ℕ → FileBytes) (guids : List (ℕ × ℕ)) → Fits s → FilesAscend s → TellsBytes s held
    → ListsGuids s guids → FilesAscend (unfolded (snapshot s held guids) s.stored)
snapshot_ascends s held guids i ascend told lists =
    order_ascends s s.stored held guids s.entries i ascend told lists (order_itself s.entries ascend)
