-- Opens that leave one behind the other (MS-FSA 2.1.5.5), told from the state before all of them: what the earlier ones make of files.
use Rattle.std.specs.Prelude.{◌≡◌, ℕ, ◌+◌, ◌==◌, nat_le, Bool, true, false, not, ◌&&◌, ◌||◌, if◌then◌else◌, List, [], ◌∷◌, ◌++◌, length, ⊤}
use Rattle.spec_exchange.specs.Table.{has}
use Rattle.spec_exchange.specs.Commands.{deletes_on_close}
use Rattle.spec_exchange.specs.State.{Server, Entry, Open, Origin, Record, CloseRecord, DeleteRecord, RemoveRecord}
use Rattle.spec_exchange.specs.Files.{root, exists, exists_in, is_directory, is_full_directory, path_in, path_of}
use Rattle.spec_exchange.specs.Texts.{is_below}
use Rattle.spec_exchange.specs.Opens.{file_has_open, opens_of}
use Rattle.law_server.specs.tables.Fits.{Fits}

-- the entries without those of files that went
unfoldable pub entries_left : (ℕ → Bool) → List Entry → List Entry
entries_left went [] = []
entries_left went (e ∷ es) = if went e.file then entries_left went es else e ∷ entries_left went es

-- from the state s to the state u behind the opens that left: how many of each file's did, which files that have an open yet are
-- delete pending by them, and which went
pub record LeftSince (left : ℕ → ℕ) (marked went : ℕ → Bool) (s u : Server) : Type 0 where
  pub fits : Fits u
  pub stood : (o : ℕ) → u.standing o ≡ true → s.standing o ≡ true
  pub opens : (f : ℕ) → exists s f ≡ true → length (opens_of s f) ≡ length (opens_of u f) + left f
  pub pending : (f : ℕ) → exists u f ≡ true → file_has_open u f ≡ true → u.delete_pending f ≡ (s.delete_pending f || marked f)
  pub entries : u.entries ≡ entries_left went s.entries
  pub directory : u.directory ≡ s.directory
  pub opened : u.opened ≡ s.opened

-- the file of an open is delete pending before it leaves
abbrev pub was_pending : (ℕ → Bool) → Server → ℕ → Bool
was_pending marked s f = s.delete_pending f || marked f

abbrev pub deletes_at_close : Open → Bool
deletes_at_close row = deletes_on_close row.options

-- the open is the file's last, and nothing stands in the file; it isn't the root
abbrev pub is_last : (ℕ → ℕ) → Server → Server → ℕ → Bool
is_last left s u f = not (f == root) && (nat_le (length (opens_of s f)) (left f + 1) && not (is_full_directory u f))

-- the file goes with the open
abbrev pub goes_with : (ℕ → ℕ) → (ℕ → Bool) → Server → Server → Open → Bool
goes_with left marked s u row = (was_pending marked s row.file || deletes_at_close row) && is_last left s u row.file

-- the same of a directory in which something stands: it stays, and is delete pending no longer
abbrev pub is_last_full : (ℕ → ℕ) → Server → Server → ℕ → Bool
is_last_full left s u f = not (f == root) && (nat_le (length (opens_of s f)) (left f + 1) && is_full_directory u f)

abbrev pub is_kept_with : (ℕ → ℕ) → (ℕ → Bool) → Server → Server → Open → Bool
is_kept_with left marked s u row = (was_pending marked s row.file || deletes_at_close row) && is_last_full left s u row.file

-- where it is the only one that leaves
abbrev pub goes_alone : Server → Open → Bool
goes_alone s row = (s.delete_pending row.file || deletes_at_close row) && is_last (λ f. 0) s s row.file

abbrev pub is_kept_alone : Server → Open → Bool
is_kept_alone s row = (s.delete_pending row.file || deletes_at_close row) && is_last_full (λ f. 0) s s row.file

-- one more open that left: its file has one more, is delete pending where the open deletes it, and goes where it was the last
pub record LeftBehind (left : ℕ → ℕ) (marked went : ℕ → Bool) (more : ℕ → ℕ) (marks gone : ℕ → Bool) (s u : Server)
    (row : Open) : Type 0 where
  pub more_is : (q : ℕ) → more q ≡ (if q == row.file then left q + 1 else left q)
  pub marks_is : (q : ℕ) → marks q ≡ (if q == row.file then was_pending marked s q || deletes_at_close row else marked q)
  pub gone_is : (q : ℕ) → gone q ≡ (if q == row.file then goes_with left marked s u row || went q else went q)

-- its records: that it left, or that its file is delete pending by it; and that the file went
abbrev pub marked_records : Bool → Origin → ℕ → List Record
marked_records marks origin f = if marks then DeleteRecord origin f true ∷ [] else []

abbrev pub left_records : Bool → Origin → ℕ → ℕ → Bool → List Record
left_records true origin o f marks = CloseRecord origin o ∷ []
left_records false origin o f marks = marked_records marks origin f

abbrev pub went_records : Bool → Origin → ℕ → List Record
went_records gone origin f = if gone then RemoveRecord origin f ∷ [] else []

-- of its file, behind it
abbrev pub parted_records : Bool → Bool → Origin → ℕ → List Record
parted_records kept gone origin f = if kept then DeleteRecord origin f false ∷ [] else went_records gone origin f

abbrev pub records_behind : (ℕ → ℕ) → (ℕ → Bool) → Server → Server → Origin → ℕ → Open → List Record
records_behind left marked s u origin o row = left_records row.persistent origin o row.file
    (deletes_at_close row && not (was_pending marked s row.file))
    ++ parted_records (is_kept_with left marked s u row) (goes_with left marked s u row) origin row.file

-- these opens stand
abbrev pub AllStand : Server → List ℕ → Type 0
AllStand u os = (o : ℕ) → has o os ≡ true → u.standing o ≡ true

-- ---- directories in which nothing is left

-- no two entries have a number in common
abbrev pub OpensNumbered : List Entry → Type 0
OpensNumbered [] = ⊤
OpensNumbered (e ∷ es) = (exists_in es e.file ≡ false) × OpensNumbered es

unfoldable pub all_gone : (ℕ → Bool) → List ℕ → Bool
all_gone went [] = true
all_gone went (f ∷ fs) = went f && all_gone went fs

-- these are the numbers of all that stands below a directory
abbrev pub AreOpensBelow : Server → ℕ → List ℕ → Type 0
AreOpensBelow s f fs = (g : ℕ) → has g fs ≡ (is_directory s f && (exists_in s.entries g && is_below (path_of s f) (path_in s.entries g)))
