-- A snapshot of a server stands for it, without records behind it.
use Rattle.std.proofs.Common.{◌≡◌, true, if◌then◌else◌, ℕ, List, [], ◌∷◌, Option, Some, None, refl, sym, ap, subst, ◌∙◌}
use Rattle.std.proofs.lemmas.List.{append-nil}
use Rattle.spec_exchange.specs.State as model
use Rattle.spec_exchange.specs.State.{Entry, Range, Server}
use Rattle.spec_exchange.specs.Fold.{fold_from, nothing_yet, ranges_that_stay, stays, stays_by_guid}
use Rattle.law_records.specs.fold.Order.{FilesAscend, numbers}
use Rattle.law_server.specs.tables.Fits.{Fits, all_sound, is_ascending}
use Rattle.law_snapshots.specs.snapshots.Kept.{IsOrderOf, Keeps, ListsGuids, TellsBytes}
use Rattle.law_snapshots.specs.snapshots.Pieces.{FileBytes, SnapshotPiece, snapshot_in, unfolded, with_pieces}
use Rattle.law_snapshots.specs.snapshots.Taken.{AreParentsFirst, IsTakable, are_parents_first, numbered_entries, takes_pieces}
use Rattle.server_core.specs.Over.{StandsOver, based}
use Rattle.server_core.specs.Reading.{SpellOver}
use Rattle.server_core.specs.journaled_tables.Counted.{counting}
use Rattle.server_core.specs.snapshot_writing.Whole.{IsSnapshotOf}
use Rattle.server_core.proofs.restarts.Starting.{PiecesFit, based_fits}
use Rattle.server_core.proofs.compaction.Ascending.{fold_ascends}
use Rattle.server_core.proofs.compaction.Orders.{lists_guids, parents_first, takable, tells_bytes}
use Rattle.server_core.proofs.compaction.Spelled.{Joined, read_as}

-- what the laws on snapshots say
pub record SnapshotLaws : Type 0 where
  pub keeps : (s : Server) (stored : ℕ → List ℕ) (held : ℕ → FileBytes) (guids : List (ℕ × ℕ)) (order : List Entry) → Fits s
      → FilesAscend s → TellsBytes (record s { stored = stored }) held → ListsGuids s guids → IsOrderOf order s.entries
      → Keeps (unfolded (snapshot_in s held guids order) stored) s
  pub taken : (s : Server) (stored : ℕ → List ℕ) (held : ℕ → FileBytes) (guids : List (ℕ × ℕ)) (order : List Entry) → Fits s
      → FilesAscend s → TellsBytes (record s { stored = stored }) held → IsOrderOf order s.entries → IsTakable s held guids order
      → takes_pieces (unfolded [] stored) (snapshot_in s held guids order) ≡ true
  pub order : (s : Server) (fs : List ℕ) → Fits s → FilesAscend s → AreParentsFirst s fs → IsOrderOf (numbered_entries s fs) s.entries
      × (are_parents_first s [] (numbered_entries s fs) ≡ true)
  pub joined : Joined
  pub fit : PiecesFit

-- its pieces
abbrev pub pieces_of : (s : Server) (bodies : List (List ℕ)) → IsSnapshotOf s bodies → List SnapshotPiece
pieces_of s bodies h = snapshot_in s h.held h.guids (numbered_entries s h.order)

-- the files of a server stand in the order of their numbers, as those do that its journal stands for
pub ascends : PiecesFit → (base : List SnapshotPiece) (s : Server) (records : List model.Record) (bodies : List (List ℕ))
    → SpellOver base bodies records → all_sound records ≡ true → StandsOver base records s → FilesAscend s
ascends fit base s records bodies spelled sound stands =
    let b = based_fits fit base bodies records spelled in
    subst (λ (es : List Entry). is_ascending (numbers es) ≡ true) stands.files.entries (fold_ascends (based base) records sound b.0 b.1)

module _ (law : SnapshotLaws) (s : Server) (bodies : List (List ℕ)) (fits : Fits s) (version : s.version ≡ 2) (ascend : FilesAscend s)
    (h : IsSnapshotOf s bodies) where
  ordered : IsOrderOf (numbered_entries s h.order) s.entries × (are_parents_first s [] (numbered_entries s h.order) ≡ true)
  ordered = law.order s h.order fits ascend (parents_first s h.order h.ordered)

  told : TellsBytes (record s { stored = λ f. [] }) h.held
  told = tells_bytes s h.held h.order h.ordered h.tells

  kept : Keeps (unfolded (pieces_of s bodies h) (λ f. [])) s
  kept = law.keeps s (λ f. []) h.held h.guids (numbered_entries s h.order) fits ascend told (lists_guids s h.guids h.expired) ordered.0

  all_taken : takes_pieces (unfolded [] (λ f. [])) (pieces_of s bodies h) ≡ true
  all_taken = law.taken s (λ f. []) h.held h.guids (numbered_entries s h.order) fits ascend told ordered.0
      (takable s bodies version h ordered.1)

  pub stands_alone : StandsOver (pieces_of s bodies h) [] s
  unfolding fold_from
  stands_alone = kept

  pub spelled_alone : SpellOver (pieces_of s bodies h) bodies []
  unfolding with_pieces
  spelled_alone = record {
    front = bodies;
    back = [];
    bodies_are = sym (append-nil bodies);
    pieces = read_as law.joined nothing_yet bodies (pieces_of s bodies h) h.pieces all_taken;
    records = refl;
  }

-- ---- the same where other bytes are counted

ranges_counted : (s : Server) (n : ℕ) (rs : List Range) → ranges_that_stay s rs ≡ ranges_that_stay (counting s n) rs
unfolding ranges_that_stay
ranges_counted s n [] = refl
ranges_counted s n (r ∷ rs) = ap (λ (l : List Range). if stays s r.owner then r ∷ l else l) (ranges_counted s n rs)

guid_counted : (s : Server) (n : ℕ) (o : Option ℕ) → stays_by_guid s o ≡ stays_by_guid (counting s n) o
guid_counted s n None = refl
guid_counted s n (Some o) = refl

pub kept_counted : (d s : Server) (n : ℕ) → Keeps d s → Keeps d (counting s n)
kept_counted d s n h = record {
  files = h.files;
  opens = record {
    opens = h.opens.opens;
    standing = h.opens.standing;
    opened = h.opens.opened;
    lock_sequences = h.opens.lock_sequences;
    by_guid = λ c g. h.opens.by_guid c g ∙ guid_counted s n (s.by_guid c g);
    ranges = λ f. h.opens.ranges f ∙ ranges_counted s n (s.ranges f);
  };
  counts = record {
    version = h.counts.version;
    epoch = h.counts.epoch;
    open_ids_given = h.counts.open_ids_given;
    full = h.counts.full;
    room = h.counts.room;
    expired_guids = h.counts.expired_guids;
    expired_count = h.counts.expired_count;
  };
}
