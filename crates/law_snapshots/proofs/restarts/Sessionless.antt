-- No piece and no record keeps a session.
use Rattle.std.proofs.Common.{◌≡◌, ℕ, ◌+◌, ◌==◌, nat_lt, nat_le, Bool, true, not, ◌&&◌, ◌||◌, if◌then◌else◌, List, [], ◌∷◌}
use Rattle.std.proofs.Common.{length, Option, Some, None, refl, arith}
use Rattle.spec_exchange.specs.Table.{put, put2}
use Rattle.spec_exchange.specs.Status.{success}
use Rattle.spec_exchange.specs.Content.{written, ended, is_empty}
use Rattle.spec_exchange.specs.Commands.{Element, all_lock, all_unlock, deletes_on_close}
use Rattle.spec_exchange.specs.State.{Server, Open, Entry, Record, NewOpen, EpochRecord, CreateRecord, WriteRecord, EndRecord, BasicRecord}
use Rattle.spec_exchange.specs.State.{DeleteRecord, RenameRecord, RemoveRecord, LockRecord, CloseRecord, VersionRecord, ExpireRecord}
use Rattle.spec_exchange.specs.Files.{root, find, exists, exists_in, make_file, empty_file, set_content, store_basic, set_delete_pending}
use Rattle.spec_exchange.specs.Files.{remove_file, rename_file, passes_room}
use Rattle.spec_exchange.specs.Ranges.{RangeAnswer, Stands, Denied, change_ranges}
use Rattle.spec_exchange.specs.Opens.{add_open, drop_open, pending_behind, goes, without_gone}
use Rattle.spec_exchange.specs.CheckOpen.{target_of, file_of, is_slot}
use Rattle.spec_exchange.specs.Effects.{keep_slot, set_ranges}
use Rattle.spec_exchange.specs.Step.{add_expired_guid, max_expired_guids}
use Rattle.spec_exchange.specs.Fold.{nothing_yet, with_record, fold_from, sweep, begin_epoch, may_create, may_have_open, restore}
use Rattle.spec_exchange.specs.Fold.{created_file, is_file, may_rename, may_remove, lock_granted, lock_recorded, shut_recorded}
use Rattle.law_server.proofs.tables.Logic.{either}
use Rattle.law_records.specs.recovery.Restarted.{Bare}
use Rattle.law_snapshots.specs.behind.Found.{found}
use Rattle.law_snapshots.specs.snapshots.Pieces.{SnapshotPiece, BasePiece, FilePiece, BytesPiece, OpenPiece, SlotPiece, RangePiece, GuidPiece}
use Rattle.law_snapshots.specs.snapshots.Pieces.{with_piece, with_pieces, unfolded, may_place, place_file, may_stand, push_range}

none_put : {X : Type 0} (f : ℕ → X) (k : ℕ) (v : X) → ((q : ℕ) → f q ≡ v) → (q : ℕ) → put f k v q ≡ v
none_put f k v h q = let old = h q in grind arith

bare_added : (s : Server) (o : ℕ) (row : Open) → Bare s → Bare (add_open s o row None 0)
bare_added s o row h =
    record {
      apart = none_put s.session_of_open o None h.apart;
      unreached = none_put s.sequence o 0 h.unreached;
      undated = none_put s.deadline o None h.undated;
      unlisted = none_put s.enumeration_location o None h.unlisted;
      unmoved = none_put s.current_byte_offset o 0 h.unmoved;
      absent = h.absent;
      no_count = h.no_count;
      no_trees = h.no_trees;
      unclosed = h.unclosed;
      unrefused = h.unrefused;
      no_guids = h.no_guids;
      no_connections = h.no_connections;
      off = h.off;
      unmade = h.unmade;
    }

bare_slot : (s : Server) (o index number status : ℕ) → Bare s → Bare (keep_slot s o index number status)
bare_slot s o index number status h = either (λ x. Bare x) (is_slot index) (record s {
  lock_sequences = put2 s.lock_sequences o index (Some (record { number = number; status = status }));
}) s (λ _. h)
    (λ _. h)

-- ---- pieces

bare_piece : (s : Server) (p : SnapshotPiece) → Bare s → Bare (with_piece s p)
bare_piece s (BasePiece version epoch given next times) h = h
bare_piece s (FilePiece f path is_dir pending basic size stored) h = either (λ x. Bare x) (may_place s f)
    (place_file s f path is_dir pending basic size stored) s (λ _. h) (λ _. h)
bare_piece s (BytesPiece f at bytes) h = either (λ x. Bare x) (exists_in s.entries f)
    (record s { content = put s.content f (written at bytes (s.content f)) }) s (λ _. h) (λ _. h)
bare_piece s (OpenPiece o row) h = either (λ x. Bare x) (may_stand s o row) (add_open s o row None 0) s (λ _. bare_added s o row h) (λ _. h)
bare_piece s (SlotPiece o index number status) h = either (λ x. Bare x) (s.standing o) (keep_slot s o index number status) s
    (λ _. bare_slot s o index number status h) (λ _. h)
bare_piece s (RangePiece r) h = either (λ x. Bare x) (s.standing r.owner) (push_range s (s.opened r.owner).file r) s (λ _. h) (λ _. h)
bare_piece s (GuidPiece client create) h = h

bare_pieces : (s : Server) (ps : List SnapshotPiece) → Bare s → Bare (with_pieces s ps)
unfolding with_pieces
bare_pieces s [] h = h
bare_pieces s (p ∷ ps) h = bare_pieces (with_piece s p) ps (bare_piece s p h)

pub bare_unfolded : (ps : List SnapshotPiece) (stored : ℕ → List ℕ) → Bare (unfolded ps stored)
bare_unfolded ps stored = bare_pieces (record nothing_yet { stored = stored }) ps (record {
  apart = λ o. refl;
  unreached = λ o. refl;
  undated = λ o. refl;
  unlisted = λ o. refl;
  unmoved = λ o. refl;
  absent = λ x. refl;
  no_count = refl;
  no_trees = λ x. refl;
  unclosed = λ x g. refl;
  unrefused = λ x g. refl;
  no_guids = λ x. refl;
  no_connections = refl;
  off = λ k. refl;
  unmade = λ k. refl;
})

-- ---- records

bare_swept : (s : Server) (es : List Entry) → Bare s → Bare (sweep s es)
unfolding sweep
bare_swept s [] h = h
bare_swept s (e ∷ es) h = bare_swept (without_gone s e.file) es
    (either (λ x. Bare x) (goes s e.file) (remove_file s e.file) s (λ _. h) (λ _. h))

bare_epoch : (s : Server) (number : ℕ) → Bare s → Bare (begin_epoch s number)
bare_epoch s number h = either (λ x. Bare x) (number == s.epoch + 1) (record (sweep s s.entries) {
  epoch = number;
  open_ids_given = 0;
  session_ids_given = 0;
}) s (λ _. bare_swept s s.entries h) (λ _. h)

bare_file : (s : Server) (action f : ℕ) (path : List ℕ) (attributes : ℕ) (is_dir : Bool) (time : ℕ) → Bare s
    → Bare (created_file s action f path attributes is_dir time)
bare_file s action f path attributes is_dir time h =
    either (λ x. Bare x) (action == 2) (make_file s path is_dir attributes time)
    (if action == 1 then s else empty_file s f attributes time) (λ _. h)
    (λ _. either (λ x. Bare x) (action == 1) s (empty_file s f attributes time) (λ _. h) (λ _. h))

bare_opened : (s : Server) (f action : ℕ) (opened : Option NewOpen) → Bare s → Bare (restore s f action opened)
bare_opened s f action None h = h
bare_opened s f action (Some n) h =
    let row : Open = record {
      file = f;
      access = n.access;
      share = n.share;
      options = n.options;
      action = action;
      persistent = true;
      client_guid = n.client_guid;
      create_guid = Some n.create_guid;
      user = n.user;
      timeout = n.timeout;
    } in bare_added s n.id row h

bare_dropped : (s : Server) (o : ℕ) → Bare s → Bare (drop_open s o)
bare_dropped s o h =
    record {
      apart = none_put s.session_of_open o None h.apart;
      unreached = h.unreached;
      undated = none_put s.deadline o None h.undated;
      unlisted = h.unlisted;
      unmoved = h.unmoved;
      absent = h.absent;
      no_count = h.no_count;
      no_trees = h.no_trees;
      unclosed = h.unclosed;
      unrefused = h.unrefused;
      no_guids = h.no_guids;
      no_connections = h.no_connections;
      off = h.off;
      unmade = h.unmade;
    }

bare_shut : (s : Server) (o : ℕ) → Bare s → Bare (shut_recorded s o)
bare_shut s o h = bare_dropped (pending_behind s o) o (either (λ x. Bare x) (deletes_on_close (s.opened o).options)
    (set_delete_pending s (s.opened o).file true) s (λ _. h) (λ _. h))

bare_expired : (s : Server) (client : ℕ) (guid : Option ℕ) → Bare s → Bare (add_expired_guid s client guid)
bare_expired s client None h = h
bare_expired s client (Some g) h = h

bare_granted : (s : Server) (o index number : ℕ) (x : RangeAnswer) → Bare s → Bare (lock_granted s o index number x)
bare_granted s o index number (Denied status) h = h
bare_granted s o index number (Stands ranges) h = bare_slot (set_ranges s (file_of s o) ranges) o index number success h

bare_locked : (s : Server) (o index number status : ℕ) (es : List Element) → Bare s → Bare (lock_recorded s o index number status es)
bare_locked s o index number status es h =
    let granted = lock_granted s o index number (change_ranges (s.ranges (file_of s o)) o es) in let kept =
    keep_slot s o index number status in
    either (λ x. Bare x) (not (all_lock es || all_unlock es)) s (if status == success then granted else kept) (λ _. h)
    (λ _. either (λ x. Bare x) (status == success) granted kept
    (λ _. bare_granted s o index number (change_ranges (s.ranges (file_of s o)) o es) h)
    (λ _. bare_slot s o index number status h))

bare_record : (s : Server) (r : Record) → Bare s → Bare (with_record s r)
bare_record s (EpochRecord number) h = bare_epoch s number h
bare_record s (VersionRecord number) h = either (λ x. Bare x) ((number == 2) && (s.version == 1)) (record s {
  version = 2;
}) s (λ _. h) (λ _. h)
bare_record s (CreateRecord origin action f path attributes is_dir time opened) h =
    let made = created_file s action f path attributes is_dir time in
    either (λ x. Bare x) (may_create s action f path && may_have_open s opened) (restore made f action opened) s
    (λ _. bare_opened made f action opened (bare_file s action f path attributes is_dir time h)) (λ _. h)
bare_record s (WriteRecord origin f at time bytes) h =
    either (λ x. Bare x) (is_file s f && (not (is_empty bytes) && not (passes_room s f (at + length bytes))))
    (set_content s f (written at bytes (s.content f)) time) s (λ _. h) (λ _. h)
bare_record s (EndRecord origin f size time) h = either (λ x. Bare x) (is_file s f && not (passes_room s f size))
    (set_content s f (ended size (s.content f)) time) s (λ _. h) (λ _. h)
bare_record s (BasicRecord origin f basic) h = either (λ x. Bare x) (exists s f) (store_basic s f basic) s (λ _. h) (λ _. h)
bare_record s (DeleteRecord origin f flag) h = either (λ x. Bare x) (exists s f && not (f == root))
    (set_delete_pending s f flag) s (λ _. h) (λ _. h)
bare_record s (RenameRecord origin f replaced path) h = either (λ x. Bare x) (may_rename s f replaced path)
    (rename_file s f (target_of f (find s path)) path) s (λ _. h) (λ _. h)
bare_record s (RemoveRecord origin f) h = either (λ x. Bare x) (may_remove s f) (remove_file s f) s (λ _. h) (λ _. h)
bare_record s (LockRecord origin o index number status es) h = either (λ x. Bare x) (s.standing o && nat_le index 64)
    (lock_recorded s o index number status es) s (λ _. bare_locked s o index number status es h) (λ _. h)
bare_record s (CloseRecord origin o) h = either (λ x. Bare x) (s.standing o) (shut_recorded s o) s (λ _. bare_shut s o h) (λ _. h)
bare_record s (ExpireRecord origin o) h =
    either (λ x. Bare x) (s.standing o && nat_lt s.expired_count max_expired_guids)
    (add_expired_guid (shut_recorded s o) (s.opened o).client_guid (s.opened o).create_guid) s
    (λ _. bare_expired (shut_recorded s o) (s.opened o).client_guid (s.opened o).create_guid (bare_shut s o h)) (λ _. h)

bare_from : (s : Server) (rs : List Record) → Bare s → Bare (fold_from s rs)
unfolding fold_from
bare_from s [] h = h
bare_from s (r ∷ rs) h = bare_from (with_record s r) rs (bare_record s r h)

pub bare_found : (base : List SnapshotPiece) (stored : ℕ → List ℕ) (since : List Record) → Bare (found base stored since)
bare_found base stored since = bare_from (unfolded base stored) since (bare_unfolded base stored)
