-- What a crash leaves while a journal is written anew, step by step.
use Rattle.std.proofs.Common.{◌≡◌, ◌⊎◌, inl, inr, ℕ, true, false, List, [], ◌∷◌, ◌++◌, refl, sym, ap, subst, ◌∙◌}
use Rattle.std.proofs.lemmas.List.{append-nil, append_assoc}
use Rattle.spec_exchange.specs.State.{Server, Record}
use Rattle.spec_exchange.specs.Fold.{Configuration, fold_from, nothing_yet}
use Rattle.law_server.specs.tables.Fits.{Fits, all_sound}
use Rattle.law_server.proofs.tables.Folded.{sound_none}
use Rattle.law_records.specs.fold.Order.{FilesAscend}
use Rattle.law_snapshots.specs.behind.Found.{FoundFor}
use Rattle.law_snapshots.specs.drafts.Folder.{FileState, Folder, FolderLeaves, OneLeaves, FolderStep, BeginDraft, PutDraft, SyncDraft}
use Rattle.law_snapshots.specs.drafts.Folder.{AdoptDraft, PutJournal, SyncJournal, SyncFolder, settling, fresh_draft, behind_step, behind_steps, LeavesDuring, puts, rewriting}
use Rattle.law_snapshots.specs.drafts.Folder.{IsSettledFolder, is_draft_only, AllDraftOnly}
use Rattle.law_snapshots.specs.restarts.Reopened.{RestartKept, reopened}
use Rattle.law_snapshots.specs.snapshots.Kept.{ListsGuids, TellsBytes, parts_joined}
use Rattle.law_snapshots.specs.snapshots.Pieces.{FileBytes, SnapshotPiece, snapshot, unfolded}
use Rattle.law_records.specs.recovery.Restarted.{EntriesLeft}
use Rattle.law_snapshots.proofs.restarts.Again.{entries, stands}
use Rattle.law_snapshots.proofs.snapshots.Fitting.{snapshot_fits}
use Rattle.law_snapshots.proofs.snapshots.Whole.{snapshot_keeps}

-- of one synced file, and none before it, a crash leaves what a read gives
settled_leaves : (f : FileState) (es : List FileState) (c : List ℕ) → f.synced ≡ true → es ≡ [] → OneLeaves (f ∷ es) c → c ≡ f.bytes
settled_leaves f es c s e (inl h) = h s
settled_leaves f es c s e (inr h) = absurd (subst (λ (fs : List FileState). OneLeaves fs c) e h)

-- ---- parts are put

put_behind : (w : Folder) (b : List ℕ) (ps : List (List ℕ))
    → behind_steps (record w { draft = record { bytes = b; synced = false } }) (puts ps)
    ≡ record w { draft = record { bytes = b ++ parts_joined ps; synced = false } }
unfolding parts_joined
put_behind w b [] = ap (λ (c : List ℕ). record w { draft = record { bytes = c; synced = false } }) (sym (append-nil b))
put_behind w b (p ∷ ps) = put_behind w (b ++ p) ps
    ∙ ap (λ (c : List ℕ). record w { draft = record { bytes = c; synced = false } }) (append_assoc b p (parts_joined ps))

steps_both : (w : Folder) (xs ys : List FolderStep) → behind_steps w (xs ++ ys) ≡ behind_steps (behind_steps w xs) ys
steps_both w [] ys = refl
steps_both w (x ∷ xs) ys = steps_both (behind_step w x) xs ys

-- while they are put the journal's name is left alone
while_put : (w : Folder) (d : FileState) (ps : List (List ℕ)) (xs : List FolderStep) (c : List ℕ)
    → LeavesDuring (record w { draft = d }) (puts ps ++ xs) c
    → FolderLeaves w c ⊎ LeavesDuring (behind_steps (record w { draft = d }) (puts ps)) xs c
while_put w d [] xs c h = inr h
while_put w d (p ∷ ps) xs c (inl h) = inl h
while_put w d (p ∷ ps) xs c (inr h) = while_put w (record { bytes = d.bytes ++ p; synced = false }) ps xs c h

-- ---- a journal is written anew

-- behind its parts: what is left while the draft is synced and adopted
while_adopted : (w : Folder) (b c : List ℕ) → IsSettledFolder w
    → LeavesDuring (record w { draft = record { bytes = b; synced = false } }) (SyncDraft ∷ AdoptDraft ∷ SyncFolder ∷ []) c
    → (c ≡ w.journal.bytes) ⊎ (c ≡ b)
while_adopted w b c i (inl h) = inl (settled_leaves w.journal w.earlier c i.synced i.alone h)
while_adopted w b c i (inr (inl h)) = inl (settled_leaves w.journal w.earlier c i.synced i.alone h)
while_adopted w b c i (inr (inr (inl (inl h)))) = inr (h refl)
while_adopted w b c i (inr (inr (inl (inr h)))) = inl (settled_leaves w.journal w.earlier c i.synced i.alone h)
while_adopted w b c i (inr (inr (inr (inl h)))) = inr (h refl)
while_adopted w b c i (inr (inr (inr (inr h)))) = absurd h

whole_by : (w : Folder) (parts : List (List ℕ)) (c : List ℕ) → IsSettledFolder w
    → FolderLeaves w c ⊎ LeavesDuring (behind_steps (record w { draft = fresh_draft }) (puts parts)) (SyncDraft ∷ AdoptDraft ∷ SyncFolder ∷ []) c
    → (c ≡ w.journal.bytes) ⊎ (c ≡ parts_joined parts)
whole_by w parts c i (inl h) = inl (settled_leaves w.journal w.earlier c i.synced i.alone h)
whole_by w parts c i (inr h) = while_adopted w (parts_joined parts) c i
    (subst (λ (v : Folder). LeavesDuring v (SyncDraft ∷ AdoptDraft ∷ SyncFolder ∷ []) c) (put_behind w [] parts) h)

pub whole : (w : Folder) (parts : List (List ℕ)) (c : List ℕ) → IsSettledFolder w → LeavesDuring w (rewriting parts) c
    → (c ≡ w.journal.bytes) ⊎ (c ≡ parts_joined parts)
whole w parts c i (inl h) = inl (settled_leaves w.journal w.earlier c i.synced i.alone h)
whole w parts c i (inr h) = whole_by w parts c i (while_put w fresh_draft parts (SyncDraft ∷ AdoptDraft ∷ SyncFolder ∷ []) c h)

-- the folder behind it
written_anew : (w : Folder) (parts : List (List ℕ)) → behind_steps w (rewriting parts)
    ≡ record { journal = record { bytes = parts_joined parts; synced = true }; earlier = []; draft = fresh_draft }
written_anew w parts =
    steps_both (record w { draft = fresh_draft }) (puts parts) (SyncDraft ∷ AdoptDraft ∷ SyncFolder ∷ [])
    ∙ ap (λ (v : Folder). behind_steps v (SyncDraft ∷ AdoptDraft ∷ SyncFolder ∷ [])) (put_behind w [] parts)

settled_anew : (b c : List ℕ) → FolderLeaves (record { journal = record { bytes = b; synced = true }; earlier = []; draft = fresh_draft }) c → c ≡ b
settled_anew b c (inl h) = h refl
settled_anew b c (inr h) = absurd h

pub done : (w : Folder) (parts : List (List ℕ)) → IsSettledFolder (behind_steps w (rewriting parts))
    × ((behind_steps w (rewriting parts)).journal.bytes ≡ parts_joined parts)
    × ((c : List ℕ) → FolderLeaves (behind_steps w (rewriting parts)) c → c ≡ parts_joined parts)
done w parts =
    let is = written_anew w parts in (
      record { synced = ap (λ (v : Folder). v.journal.synced) is; alone = ap (λ (v : Folder). v.earlier) is },
      ap (λ (v : Folder). v.journal.bytes) is,
      (λ c h. settled_anew (parts_joined parts) c (subst (λ (v : Folder). FolderLeaves v c) is h)),
    )

-- ---- a draft is given up

-- a step on the draft leaves the journal's name alone
draft_only : (w : Folder) (x : FolderStep) → is_draft_only x ≡ true
    → ((behind_step w x).journal ≡ w.journal) × ((behind_step w x).earlier ≡ w.earlier)
draft_only w BeginDraft h = (refl, refl)
draft_only w (PutDraft bytes) h = (refl, refl)
draft_only w SyncDraft h = (refl, refl)
draft_only w AdoptDraft h = absurd (cc)
draft_only w (PutJournal bytes) h = absurd (cc)
draft_only w SyncJournal h = absurd (cc)
draft_only w SyncFolder h = absurd (cc)

settled_still : (w v : Folder) → v.journal ≡ w.journal → v.earlier ≡ w.earlier → IsSettledFolder w → IsSettledFolder v
settled_still w v p q i = record { synced = ap (λ (f : FileState). f.synced) p ∙ i.synced; alone = q ∙ i.alone }

pub goes_on : (w : Folder) (steps : List FolderStep) → AllDraftOnly steps → IsSettledFolder w → IsSettledFolder (behind_steps w steps)
    × ((behind_steps w steps).journal ≡ w.journal)
goes_on w [] h i = (i, refl)
goes_on w (x ∷ xs) h i =
    let same = draft_only w x h.0 in
    let rest = goes_on (behind_step w x) xs h.1 (settled_still w (behind_step w x) same.0 same.1 i) in (rest.0, rest.1 ∙ same.0)

pub given_up : (w : Folder) (steps : List FolderStep) (c : List ℕ) → AllDraftOnly steps → IsSettledFolder w → LeavesDuring w steps c
    → c ≡ w.journal.bytes
given_up w [] c h i l = settled_leaves w.journal w.earlier c i.synced i.alone l
given_up w (x ∷ xs) c h i (inl l) = settled_leaves w.journal w.earlier c i.synced i.alone l
given_up w (x ∷ xs) c h i (inr l) =
    let same = draft_only w x h.0 in
    given_up (behind_step w x) xs c h.1 (settled_still w (behind_step w x) same.0 same.1 i) l ∙ ap (λ (f : FileState). f.bytes) same.0

-- ---- a start

pub settles : (w : Folder) → IsSettledFolder (behind_steps w settling) × ((behind_steps w settling).journal.bytes ≡ w.journal.bytes)
settles w = (record { synced = refl; alone = refl }, refl)

-- ---- the snapshot of a server in the place of its journal

-- a snapshot with no record behind it
alone_found : (s : Server) (held : ℕ → FileBytes) (guids : List (ℕ × ℕ)) → Fits s → FilesAscend s → TellsBytes s held → ListsGuids s guids
    → FoundFor (snapshot s held guids) s.stored [] s
unfolding fold_from
alone_found s held guids i ascend told lists = snapshot_keeps s held guids i ascend told lists

pub still_stands : (means : List ℕ → List SnapshotPiece × List Record) (w : Folder) (parts : List (List ℕ)) (s : Server)
    (held : ℕ → FileBytes) (guids : List (ℕ × ℕ)) (c : List ℕ) → IsSettledFolder w → Fits s → FilesAscend s → TellsBytes s held
    → ListsGuids s guids → FoundFor (means w.journal.bytes).0 s.stored (means w.journal.bytes).1 s
    → means (parts_joined parts) ≡ (snapshot s held guids, []) → LeavesDuring w (rewriting parts) c
    → FoundFor (means c).0 s.stored (means c).1 s
still_stands means w parts s held guids c i fit ascend told lists old new left = by (whole w parts c i left)
  where
    by : (c ≡ w.journal.bytes) ⊎ (c ≡ parts_joined parts) → FoundFor (means c).0 s.stored (means c).1 s
    by (inl e) = subst (λ (b : List ℕ). FoundFor (means b).0 s.stored (means b).1 s) (sym e) old
    by (inr e) = subst (λ (m : List SnapshotPiece × List Record). FoundFor m.0 s.stored m.1 s)
        (sym (ap (λ (b : List ℕ). means b) e ∙ new)) (alone_found s held guids fit ascend told lists)

pub restarts : (means : List ℕ → List SnapshotPiece × List Record) (w : Folder) (parts : List (List ℕ)) (s : Server)
    (held : ℕ → FileBytes) (guids : List (ℕ × ℕ)) (c : List ℕ) (z : Configuration) (bytes : ℕ) → IsSettledFolder w → Fits s
    → FilesAscend s → TellsBytes s held → ListsGuids s guids
    → FoundFor (means w.journal.bytes).0 s.stored (means w.journal.bytes).1 s
    → means (parts_joined parts) ≡ (snapshot s held guids, []) → LeavesDuring w (rewriting parts) c
    → RestartKept s (reopened z bytes (means c).0 s.stored (means c).1)
restarts means w parts s held guids c z bytes i fit ascend told lists old new left =
    stands z bytes (means c).0 s.stored (means c).1 s (still_stands means w parts s held guids c i fit ascend told lists old new left)

abbrev pub IsSound : (ℕ → List ℕ) → List SnapshotPiece × List Record → Type 0
IsSound stored m = Fits (unfolded m.0 stored) × (all_sound m.1 ≡ true)

pub still_sound : Fits nothing_yet → (means : List ℕ → List SnapshotPiece × List Record) (w : Folder) (parts : List (List ℕ)) (s : Server)
    (held : ℕ → FileBytes) (guids : List (ℕ × ℕ)) (c : List ℕ) → IsSettledFolder w → Fits s → FilesAscend s → TellsBytes s held
    → ListsGuids s guids → Fits (unfolded (means w.journal.bytes).0 s.stored) → all_sound (means w.journal.bytes).1 ≡ true
    → means (parts_joined parts) ≡ (snapshot s held guids, []) → LeavesDuring w (rewriting parts) c
    → Fits (unfolded (means c).0 s.stored) × (all_sound (means c).1 ≡ true)
still_sound none means w parts s held guids c i fit ascend told lists old sound new left = by (whole w parts c i left)
  where
    anew : IsSound s.stored (snapshot s held guids, [])
    anew = (snapshot_fits none s held guids fit ascend told lists, sound_none)

    by : (c ≡ w.journal.bytes) ⊎ (c ≡ parts_joined parts) → IsSound s.stored (means c)
    by (inl e) = subst (λ (b : List ℕ). IsSound s.stored (means b)) (sym e) (old, sound)
    by (inr e) = subst (λ (m : List SnapshotPiece × List Record). IsSound s.stored m) (sym (ap (λ (b : List ℕ). means b) e ∙ new)) anew

pub entries_stay : Fits nothing_yet → (means : List ℕ → List SnapshotPiece × List Record) (w : Folder) (parts : List (List ℕ)) (s : Server)
    (held : ℕ → FileBytes) (guids : List (ℕ × ℕ)) (c : List ℕ) (z : Configuration) (bytes : ℕ) → IsSettledFolder w → Fits s
    → FilesAscend s → TellsBytes s held → ListsGuids s guids
    → FoundFor (means w.journal.bytes).0 s.stored (means w.journal.bytes).1 s
    → Fits (unfolded (means w.journal.bytes).0 s.stored) → all_sound (means w.journal.bytes).1 ≡ true
    → means (parts_joined parts) ≡ (snapshot s held guids, []) → LeavesDuring w (rewriting parts) c
    → EntriesLeft s (reopened z bytes (means c).0 s.stored (means c).1)
entries_stay none means w parts s held guids c z bytes i fit ascend told lists stood old sound new left =
    let q = still_sound none means w parts s held guids c i fit ascend told lists old sound new left in
    entries z bytes (means c).0 s.stored (means c).1 s q.0 q.1 fit
    (still_stands means w parts s held guids c i fit ascend told lists stood new left)
