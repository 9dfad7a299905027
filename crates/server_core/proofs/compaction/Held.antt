-- A server whose journal was written anew, and what a crash meanwhile leaves.
use Rattle.std.proofs.Common.{◌≡◌, inl, inr, ℕ, true, List, [], ◌∷◌, None, refl, sym, ◌∙◌}
use Rattle.spec_exchange.specs.State as model
use Rattle.law_server.specs.tables.Fits.{Fits, all_sound}
use Rattle.law_server.proofs.tables.Applied.{journal_keeps}
use Rattle.law_server.proofs.tables.Folded.{sound_none}
use Rattle.law_snapshots.specs.snapshots.Pieces.{SnapshotPiece}
use Rattle.journal.specs.disk_journal.Journal.{JournalState, JournalSettled}
use Rattle.spec_world.specs.Ends.{Logons}
use Rattle.server_core.specs.Over.{StandsOver, found_over}
use Rattle.server_core.specs.Reading.{SpellOver}
use Rattle.server_core.specs.compaction.Compacts.{CompactionLeaves, IsAnew, RewriteLeaves}
use Rattle.server_core.specs.journaled_tables.Counted.{counting}
use Rattle.server_core.specs.journaled_tables.Holds.{HoldsOver, JournaledStands}
use Rattle.server_core.specs.snapshot_writing.Whole.{IsSnapshotOf}
use Rattle.server_core.specs.declared.journaled_tables.state.ServerState.{ServerState}
use Rattle.server_core.proofs.commit_event.Shown.{counted_shown}
use Rattle.server_core.proofs.compaction.Anew.{SnapshotLaws, ascends, kept_counted, pieces_of, spelled_alone, stands_alone}

some_pieces : (p : SnapshotPiece) (ps : List SnapshotPiece) → p ∷ ps ≡ [] → ⊥
some_pieces p ps e = cc

module _ (law : SnapshotLaws) where
  -- a snapshot that a crash leaves stands for the server
  pub compaction_leaves : (base : List SnapshotPiece) (s : model.Server) (records : List model.Record) (bodies : List (List ℕ)) → Fits s
      → s.version ≡ 2 → all_sound records ≡ true → SpellOver base bodies records → StandsOver base records s → (c : List ℕ)
      → RewriteLeaves s bodies c → CompactionLeaves s bodies c
  compaction_leaves base s records bodies fits version sound spelled stands c (inl h) = inl h
  compaction_leaves base s records bodies fits version sound spelled stands c (inr h) =
      let a = ascends law.fit base s records bodies spelled sound stands in
      inr (
        pieces_of s h.0 h.1,
        h.0,
        h.2,
        spelled_alone law s h.0 fits version a h.1,
        stands_alone law s h.0 fits version a h.1,
      )

  module _ {D : Type 0} (told : Type 0) (seen : D → List ℕ) (may_leave : D → List ℕ → Type 0) where
    anew_stands : (base : List SnapshotPiece) (s : model.Server) (records : List model.Record) (before bodies : List (List ℕ))
        (old journal : JournalState D) → Fits s → s.version ≡ 2 → all_sound records ≡ true
        → JournaledStands seen may_leave base old s records before → (i : IsSnapshotOf s bodies)
        → JournalSettled seen may_leave journal bodies
        → JournaledStands seen may_leave (pieces_of s bodies i) journal (counting s journal.used) [] bodies
    anew_stands base s records before bodies old journal fits version sound j i settled =
        let a = ascends law.fit base s records before j.spelled sound j.for_state in
        record {
          settled = settled;
          spelled = spelled_alone law s bodies fits version a i;
          for_state = kept_counted (found_over (pieces_of s bodies i) []) s journal.used (stands_alone law s bodies fits version a i);
          plain = λ e. absurd (some_pieces _ _ e);
          used = refl;
        }

    pub anew_holds : (base : List SnapshotPiece) (old : ServerState D) (s : model.Server) (L : Logons) (records : List model.Record)
        → HoldsOver told seen may_leave base old s L records → old.stopped ≡ None → (journal : JournalState D) → journal.stopped ≡ None
        → (a : IsAnew told seen may_leave journal s) → (used : ℕ) → used ≡ journal.used
        → HoldsOver told seen may_leave (pieces_of s a.0 a.1)
        (record old { journal = journal; tables = record old.tables { journal = used } }) (counting s journal.used) L []
    anew_holds base old s L records h goes journal on a used e = record {
      shown = record {
        tables = counted_shown old.tables s journal.used used h.shown.tables (sym e);
        logons = h.shown.logons;
      };
      fits = journal_keeps s journal.used h.fits;
      version = h.version;
      sound = sound_none;
      stopped_is = goes ∙ sym on;
      used = λ _. refl;
      stands = λ _ k. (
        a.0,
        anew_stands base s records (h.stands goes k).0 a.0 old.journal journal h.fits h.version h.sound (h.stands goes k).1 a.1 (a.2 k),
      );
    }
