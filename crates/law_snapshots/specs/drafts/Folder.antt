-- A journal that is written anew in a draft beside it, which then takes its name: what a crash may leave under that name. The calls are
-- those of POSIX (IEEE Std 1003.1): rename, and fsync of a file and of its folder. That a crash leaves a rename done or not done, and
-- done once the folder is synced, is trusted of the file system.
use Rattle.std.specs.Prelude.{◌≡◌, ◌⊎◌, ℕ, Bool, true, false, List, [], ◌∷◌, ◌++◌}

-- a file: what a read gives, and whether it was synced since it was last written
pub record FileState : Type 0 where
  pub bytes : List ℕ
  pub synced : Bool

-- A crash leaves what a read gives; of a file that was written and not synced since, any bytes.
abbrev pub FileLeaves : FileState → List ℕ → Type 0
FileLeaves f c = f.synced ≡ true → c ≡ f.bytes

-- The file that has the journal's name, those that had it since the folder was last synced, and the draft. Before a journal that was just
-- made there was none, which counts as a synced file of no bytes.
pub record Folder : Type 0 where
  pub journal : FileState
  pub earlier : List FileState
  pub draft : FileState

-- a crash leaves one of these files under the journal's name
abbrev pub OneLeaves : List FileState → List ℕ → Type 0
OneLeaves [] c = ⊥
OneLeaves (f ∷ fs) c = FileLeaves f c ⊎ OneLeaves fs c

-- what a crash may leave under the journal's name, between two steps
abbrev pub FolderLeaves : Folder → List ℕ → Type 0
FolderLeaves w c = OneLeaves (w.journal ∷ w.earlier) c

-- ---- steps

pub data FolderStep : Type 0 where
  -- a draft without bytes takes the place of one that was left
  BeginDraft : FolderStep
  -- bytes are written at its end
  PutDraft : (bytes : List ℕ) → FolderStep
  SyncDraft : FolderStep
  -- the draft is renamed to the journal's name
  AdoptDraft : FolderStep
  -- bytes are written at the journal's end
  PutJournal : (bytes : List ℕ) → FolderStep
  SyncJournal : FolderStep
  SyncFolder : FolderStep

abbrev pub fresh_draft : FileState
fresh_draft = record { bytes = []; synced = false }

abbrev pub behind_step : Folder → FolderStep → Folder
behind_step w BeginDraft = record w { draft = fresh_draft }
behind_step w (PutDraft bytes) = record w { draft = record { bytes = w.draft.bytes ++ bytes; synced = false } }
behind_step w SyncDraft = record w { draft = record { bytes = w.draft.bytes; synced = true } }
behind_step w AdoptDraft = record { journal = w.draft; earlier = w.journal ∷ w.earlier; draft = fresh_draft }
behind_step w (PutJournal bytes) = record w { journal = record { bytes = w.journal.bytes ++ bytes; synced = false } }
behind_step w SyncJournal = record w { journal = record { bytes = w.journal.bytes; synced = true } }
behind_step w SyncFolder = record w { earlier = [] }

abbrev pub behind_steps : Folder → List FolderStep → Folder
behind_steps w [] = w
behind_steps w (x ∷ xs) = behind_steps (behind_step w x) xs

-- What a crash at any moment of these steps may leave: a step that it cuts short leaves what could be left in front of it or behind it.
abbrev pub LeavesDuring : Folder → List FolderStep → List ℕ → Type 0
LeavesDuring w [] c = FolderLeaves w c
LeavesDuring w (x ∷ xs) c = FolderLeaves w c ⊎ LeavesDuring (behind_step w x) xs c

-- ---- a journal is written anew

abbrev pub puts : List (List ℕ) → List FolderStep
puts [] = []
puts (p ∷ ps) = PutDraft p ∷ puts ps

-- the draft is synced before it is adopted, and the folder behind that
abbrev pub rewriting : List (List ℕ) → List FolderStep
rewriting parts = BeginDraft ∷ (puts parts ++ SyncDraft ∷ AdoptDraft ∷ SyncFolder ∷ [])

-- What a start owes before anything is acknowledged: a program that was stopped may have left a journal that isn't on the disk, or not
-- under its name.
abbrev pub settling : List FolderStep
settling = SyncJournal ∷ SyncFolder ∷ []

-- all of the journal is on the disk, under its name
pub record IsSettledFolder (w : Folder) : Type 0 where
  pub synced : w.journal.synced ≡ true
  pub alone : w.earlier ≡ []

-- no draft is adopted by this step
abbrev pub is_draft_only : FolderStep → Bool
is_draft_only BeginDraft = true
is_draft_only (PutDraft bytes) = true
is_draft_only SyncDraft = true
is_draft_only AdoptDraft = false
is_draft_only (PutJournal bytes) = false
is_draft_only SyncJournal = false
is_draft_only SyncFolder = false

abbrev pub AllDraftOnly : List FolderStep → Type 0
AllDraftOnly [] = Unit {0}
AllDraftOnly (x ∷ xs) = (is_draft_only x ≡ true) × AllDraftOnly xs
