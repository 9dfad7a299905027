-- The state that the records fold to agrees with the server's: column by column, in what outlives a restart.
use Rattle.std.specs.Prelude.{◌≡◌, ℕ, ◌≤◌, Bool, true, ◌&&◌, if◌then◌else◌, List, [], ◌∷◌, Option, Some, None}
use Rattle.spec_exchange.specs.Commands.{Basic}
use Rattle.spec_exchange.specs.State.{Server, Entry, Open, Range, Kept, Record}
use Rattle.spec_exchange.specs.Fold.{fold, full_room, persistent_in}

-- an open that outlives its session
abbrev pub staying : (ℕ → Bool) → (ℕ → Open) → ℕ → Bool
staying standing opened o = standing o && (opened o).persistent

-- the open where it passes
abbrev pub kept_guid : (ℕ → Bool) → Option ℕ → Option ℕ
kept_guid p None = None
kept_guid p (Some o) = if p o then Some o else None

-- the ranges whose owner passes
unfoldable pub kept_ranges : (ℕ → Bool) → List Range → List Range
kept_ranges p [] = []
kept_ranges p (r ∷ rs) = if p r.owner then r ∷ kept_ranges p rs else kept_ranges p rs

-- the files, all of them
pub record FilesAgree (fold_entries its_entries : List Entry) (fold_next its_next : ℕ)
    (fold_directory its_directory fold_pending its_pending : ℕ → Bool) (fold_basic its_basic : ℕ → Basic)
    (fold_content its_content : ℕ → List ℕ) : Type 0 where
  pub entries : fold_entries ≡ its_entries
  pub next_file : fold_next ≡ its_next
  pub directory : fold_directory ≡ its_directory
  pub delete_pending : fold_pending ≡ its_pending
  pub basic : fold_basic ≡ its_basic
  pub content : fold_content ≡ its_content

-- the persistent opens alone, with their rows, slots, guids and ranges
pub record OpensAgree (fold_opens its_opens : List ℕ) (fold_standing its_standing : ℕ → Bool)
    (fold_opened its_opened : ℕ → Open) (fold_slots its_slots : ℕ → ℕ → Option Kept) (fold_guids its_guids : ℕ → ℕ
    → Option ℕ) (fold_ranges its_ranges : ℕ → List Range) : Type 0 where
  pub opens : fold_opens ≡ persistent_in its_opened its_opens
  pub standing : (o : ℕ) → fold_standing o ≡ staying its_standing its_opened o
  pub opened : (o : ℕ) → staying its_standing its_opened o ≡ true → fold_opened o ≡ its_opened o
  pub lock_sequences : (o i : ℕ) → staying its_standing its_opened o ≡ true → fold_slots o i ≡ its_slots o i
  pub by_guid : (c g : ℕ) → fold_guids c g ≡ kept_guid (staying its_standing its_opened) (its_guids c g)
  pub ranges : (f : ℕ) → fold_ranges f ≡ kept_ranges (staying its_standing its_opened) (its_ranges f)

-- the numbers; the fold gives no more ids than the server gave, and its room is the whole
pub record CountsAgree (fold_version its_version fold_epoch its_epoch fold_given its_given fold_room its_room : ℕ)
    (fold_expired its_expired : ℕ → ℕ → Bool) (fold_count its_count : ℕ) : Type 0 where
  pub version : fold_version ≡ its_version
  pub epoch : fold_epoch ≡ its_epoch
  pub open_ids_given : fold_given ≤ its_given
  pub full : fold_room ≡ full_room
  pub room : its_room ≤ full_room
  pub expired_guids : fold_expired ≡ its_expired
  pub expired_count : fold_count ≡ its_count

-- the columns of files, of the fold d and of the server s
abbrev pub Files : Server → Server → Type 0
Files d s = FilesAgree d.entries s.entries d.next_file s.next_file d.directory s.directory d.delete_pending
    s.delete_pending d.basic s.basic d.content s.content

-- those of opens
abbrev pub RecordOpens : Server → Server → Type 0
RecordOpens d s = OpensAgree d.opens s.opens d.standing s.standing d.opened s.opened d.lock_sequences s.lock_sequences
    d.by_guid s.by_guid d.ranges s.ranges

-- those of counts
abbrev pub RecordCounts : Server → Server → Type 0
RecordCounts d s = CountsAgree d.version s.version d.epoch s.epoch d.open_ids_given s.open_ids_given d.room s.room
    d.expired_guids s.expired_guids d.expired_count s.expired_count

-- the first state, a fold's, stands for the second
abbrev pub Mirrors : Server → Server → Type 0
Mirrors d s = Files d s × RecordOpens d s × RecordCounts d s

-- the fold of the records agrees with the server
abbrev pub RecordRecovers : List Record → Server → Type 0
RecordRecovers rs s = Mirrors (fold rs) s
