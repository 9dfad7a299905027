-- What a start makes of a snapshot and the records behind it.
use Rattle.std.proofs.Common.{◌≡◌, ◌⊎◌, inl, inr, ℕ, ◌+◌, ◌≤◌, ◌==◌, eqb-true, nat_lt, nat_le, Bool, true, not, ◌&&◌, if◌then◌else◌}
use Rattle.std.proofs.Common.{List, [], ◌∷◌, refl, arith, sym, subst, ◌∙◌, ap, Option, Some, None, slice_get, suc}
use Rattle.spec_exchange.specs.Content.{written}
use Rattle.spec_exchange.specs.Commands.{Basic, deletes_on_close}
use Rattle.spec_exchange.specs.Table.{put}
use Rattle.spec_exchange.specs.State.{Server, Open, Range, Record}
use Rattle.spec_exchange.specs.Files.{root, exists, exists_in}
use Rattle.spec_exchange.specs.Opens.{add_open, max_ids}
use Rattle.spec_exchange.specs.Effects.{keep_slot}
use Rattle.spec_exchange.specs.Records.{entry_bytes}
use Rattle.spec_exchange.specs.Fold.{Configuration, nothing_yet, fold_from, full_room, opening_records, ranges_that_stay, stays}
use Rattle.spec_exchange.specs.Fold.{stays_by_guid}
use Rattle.law_server.specs.tables.Fits.{Fits, all_sound}
use Rattle.law_server.proofs.tables.Logic.{back_of, both, either, front_of}
use Rattle.law_server.proofs.tables.Folded.{folded_keeps, sound_more, sound_recovery}
use Rattle.law_server.proofs.tables.SessionEffects.{configured_keeps}
use Rattle.law_records.specs.recovery.Recovers.{RecordRecovers}
use Rattle.law_records.specs.recovery.Restarted.{Bare}
use Rattle.law_records.proofs.recovery.Leaves.{fold_append}
use Rattle.law_snapshots.proofs.restarts.Again.{goes_on}
use Rattle.law_snapshots.proofs.restarts.Sessionless.{bare_found}
use Rattle.law_snapshots.specs.snapshots.Kept.{Keeps}
use Rattle.law_snapshots.specs.snapshots.Pieces.{SnapshotPiece, BasePiece, FilePiece, BytesPiece, OpenPiece, SlotPiece, RangePiece}
use Rattle.law_snapshots.specs.snapshots.Pieces.{GuidPiece}
use Rattle.law_snapshots.specs.snapshots.Pieces.{has_free_guid, may_place, may_stand, place_file, push_range, with_piece, with_pieces}
use Rattle.law_snapshots.specs.snapshots.Taken.{is_unnumbered, takes_piece, takes_pieces}
use Rattle.server_core.specs.Over.{StandsOver, based, begun_over, found_over, opening_over, opened_over}
use Rattle.server_core.specs.Reading.{SpellOver}
use Rattle.server_core.proofs.SnapshotBodies.{all_taken}
use Rattle.server_core.proofs.restart_tables.OfFold.{IsOfFold, all_persistent, all_recover, no_session, of_from, of_slot, put_persistent}
use Rattle.server_core.proofs.restart_tables.OfFold.{stays_so, version_2}

-- ---- pieces that are taken make persistent opens alone, in version 2

is_two : (v : ℕ) → (v == 2) ≡ true → (v ≡ 1) ⊎ (v ≡ 2)
is_two v e = inr (eqb-true v 2 e)

row_persists : (s : Server) (o : ℕ) (row : Open) → may_stand s o row ≡ true → row.persistent ≡ true
unfolding may_stand
row_persists s o row e =
    let rest = back_of (nat_lt 0 o) (not (s.standing o) && (row.persistent && (exists s row.file
    && (not (deletes_on_close row.options && (row.file == root)) && has_free_guid s row.client_guid row.create_guid)))) e in
    let more = back_of (not (s.standing o)) (row.persistent && (exists s row.file
    && (not (deletes_on_close row.options && (row.file == root)) && has_free_guid s row.client_guid row.create_guid))) rest in
    front_of row.persistent (exists s row.file
    && (not (deletes_on_close row.options && (row.file == root)) && has_free_guid s row.client_guid row.create_guid)) more

based_version : (s : Server) (version epoch given next : ℕ) (times : Basic)
    → takes_piece s (BasePiece version epoch given next times) ≡ true
    → (version == 2) ≡ true
based_version s version epoch given next times t =
    let limits = nat_lt 0 epoch && (nat_le given max_ids && nat_lt 0 next) in
    front_of (version == 2) limits (back_of (is_unnumbered s) ((version == 2) && limits) t)

of_opened : (s : Server) (o : ℕ) (row : Open) → row.persistent ≡ true → IsOfFold s → IsOfFold (add_open s o row None 0)
of_opened s o row p h = record {
  version_is = h.version_is;
  full = h.full;
  persistent = put_persistent s.standing s.opened o row p h.persistent;
}

of_piece : (s : Server) (p : SnapshotPiece) → takes_piece s p ≡ true → IsOfFold s → IsOfFold (with_piece s p)
of_piece s (BasePiece version epoch given next times) t h = record {
  version_is = is_two version (based_version s version epoch given next times t);
  full = h.full;
  persistent = h.persistent;
}
of_piece s (FilePiece f path is_dir pending basic size stored) t h = either (λ x. IsOfFold x) (may_place s f)
    (place_file s f path is_dir pending basic size stored) s (λ _. h) (λ _. h)
of_piece s (BytesPiece f at bytes) t h = either (λ x. IsOfFold x) (exists_in s.entries f)
    (record s { content = put s.content f (written at bytes (s.content f)) }) s (λ _. h) (λ _. h)
of_piece s (OpenPiece o row) t h = either (λ x. IsOfFold x) (may_stand s o row) (add_open s o row None 0) s
    (λ on. of_opened s o row (row_persists s o row on) h) (λ _. h)
of_piece s (SlotPiece o index number status) t h = either (λ x. IsOfFold x) (s.standing o) (keep_slot s o index number status) s
    (λ _. of_slot s o index number status h) (λ _. h)
of_piece s (RangePiece r) t h = either (λ x. IsOfFold x) (s.standing r.owner) (push_range s (s.opened r.owner).file r) s (λ _. h) (λ _. h)
of_piece s (GuidPiece client create) t h = h

of_pieces : (s : Server) (ps : List SnapshotPiece) → takes_pieces s ps ≡ true → IsOfFold s → IsOfFold (with_pieces s ps)
unfolding with_pieces takes_pieces
of_pieces s [] t h = h
of_pieces s (p ∷ ps) t h = of_pieces (with_piece s p) ps (back_of (takes_piece s p) (takes_pieces (with_piece s p) ps) t)
    (of_piece s p (front_of (takes_piece s p) (takes_pieces (with_piece s p) ps) t) h)

pub of_over : (base : List SnapshotPiece) (bodies : List (List ℕ)) (since : List Record) → SpellOver base bodies since
    → IsOfFold (found_over base since)
of_over base bodies since h = of_from (based base) since (of_pieces nothing_yet base (all_taken nothing_yet h.front base h.pieces)
    (record { version_is = inl refl; full = refl; persistent = λ o st. absurd (cc) }))

-- ---- what such a state keeps is its own

guid_so : (s : Server) (x : Option ℕ) → ((o : ℕ) → x ≡ Some o → stays s o ≡ true) → x ≡ stays_by_guid s x
guid_so s None h = refl
guid_so s (Some o) h = ap (λ (b : Bool). if b then Some o else None) (sym (h o refl))

ranges_so : (s : Server) (rs : List Range) → ((n : ℕ) (r : Range) → slice_get rs n ≡ Some r → stays s r.owner ≡ true)
    → rs ≡ ranges_that_stay s rs
unfolding ranges_that_stay
ranges_so s [] h = refl
ranges_so s (r ∷ rs) h =
    ap (λ (xs : List Range). r ∷ xs) (ranges_so s rs (λ n x e. h (suc n) x e))
    ∙ ap (λ (b : Bool). if b then r ∷ ranges_that_stay s rs else ranges_that_stay s rs) (sym (h 0 r refl))

pub own_kept : (d : Server) → Fits d → IsOfFold d → Keeps d d
own_kept d i f =
    record {
      files = record {
        entries = refl;
        next_file = refl;
        root_times = refl;
        directory = λ g h. refl;
        delete_pending = λ g h. refl;
        basic = λ g h. refl;
        content = λ g h. refl;
      };
      opens = record {
        opens = all_persistent d.opened d.opens (λ o t. f.persistent o (sym (i.listed o) ∙ t));
        standing = λ o. stays_so (d.standing o) (d.opened o).persistent (f.persistent o);
        opened = λ o e. refl;
        lock_sequences = λ o k e a b. refl;
        by_guid = λ c g. guid_so d (d.by_guid c g) (λ o e. own o (i.guid_open c g o e).0);
        ranges = λ g. ranges_so d (d.ranges g) (λ n r e. own r.owner (i.range_owners g n r e).0);
      };
      counts = record {
        version = refl;
        epoch = refl;
        open_ids_given = omega arith;
        full = f.full;
        room = let full = f.full in omega (arith, full);
        expired_guids = λ c g. refl;
        expired_count = refl;
      };
    }
  where
    own : (o : ℕ) → d.standing o ≡ true → stays d o ≡ true
    own o st = both (d.standing o) (d.opened o).persistent st (f.persistent o st)

-- ---- what a start makes

module _ (base : List SnapshotPiece) (since : List Record) (fits : Fits (found_over base since)) (f : IsOfFold
    (found_over base since)) where
  pub behind_opening : found_over base (opened_over base since) ≡ fold_from (found_over base since) (opening_records
      (found_over base since))
  behind_opening = fold_append (based base) since (opening_over base since)

  pub opening_begun : Bare (found_over base (opened_over base since)) × (found_over base (opened_over base since)).session_ids_given ≡ 0
  opening_begun = (
    bare_found base (λ g. []) (opened_over base since),
    subst (λ (s : Server). s.session_ids_given ≡ 0) (sym behind_opening) (no_session (found_over base since)),
  )

  pub opening_version : (found_over base (opened_over base since)).version ≡ 2
  opening_version = subst (λ (s : Server). s.version ≡ 2) (sym behind_opening) (version_2 (found_over base since) f)

  pub opening_sound : all_sound since ≡ true → all_sound (opened_over base since) ≡ true
  opening_sound sound = sound_more since (opening_over base since) sound (sound_recovery (found_over base since))

  opening_fits : Fits (found_over base (opened_over base since))
  opening_fits = subst (λ (s : Server). Fits s) (sym behind_opening)
      (folded_keeps (found_over base since) (opening_over base since) (sound_recovery (found_over base since)) fits)

  pub begun_fits : (z : Configuration) (bytes : ℕ) → z.room ≤ full_room → Fits (begun_over z bytes base since)
  begun_fits z bytes small = configured_keeps (found_over base (opened_over base since)) z.share z.room z.encrypts z.address
      (bytes + entry_bytes (opening_over base since)) small opening_fits

  pub begun_stands : (z : Configuration) (bytes : ℕ) → z.room ≤ full_room
      → StandsOver base (opened_over base since) (begun_over z bytes base since)
  begun_stands z bytes small =
      goes_on z bytes base (λ g. []) since (found_over base since) small fits (own_kept (found_over base since) fits f)

-- without a snapshot, column by column
at_none : (z : Configuration) (bytes : ℕ) (since : List Record) → z.room ≤ full_room → all_sound since ≡ true
    → RecordRecovers (opened_over [] since) (begun_over z bytes [] since)
unfolding with_pieces
at_none z bytes since small sound = all_recover z bytes since small sound

pub begun_plain : (z : Configuration) (bytes : ℕ) (base : List SnapshotPiece) (since : List Record) → z.room ≤ full_room
    → all_sound since ≡ true → base ≡ [] → RecordRecovers (opened_over base since) (begun_over z bytes base since)
begun_plain z bytes base since small sound none =
    subst (λ (ps : List SnapshotPiece). RecordRecovers (opened_over ps since) (begun_over z bytes ps since)) (sym none)
    (at_none z bytes since small sound)
