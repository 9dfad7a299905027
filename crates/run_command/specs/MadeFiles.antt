-- The files that `run` prints: of each file that a create made, what that create's own writes and ends made of its bytes. What others did
-- to the file isn't known here.
use Rattle.std.specs.Prelude.{◌≡◌, ℕ, zero, suc, ◌+◌, ◌==◌, Bool, false, if◌then◌else◌, List, [], ◌∷◌, ◌++◌, length, Option, Some, None}
use Rattle.std.specs.Prelude.{IsPermutation, IsSortedBy}
use Rattle.std.specs.List.Sorted.{IsStableBy}
use Rattle.std.specs.Ordering.{is_lt, nat_cmp}
use Rattle.std.specs.Cmp.Lexicographic.{slice_cmp}
use Rattle.spec_exchange.specs.Content.{effect}
use Rattle.spec_exchange.specs.Operations.{Outcome, WasOk, Action, content_op, is_ok}
use Rattle.client_values.specs.operations.Meaning.{op_of}
use Rattle.client_values.specs.outcomes.Meaning.{outcome_of}
use Rattle.client_values.specs.declared.operations.values.OpKind.{OpKind}
use Rattle.client_values.specs.declared.operations.values.OpKind.TheVariants as kinds
use Rattle.client_values.specs.declared.outcomes.outcome.Outcome.{Outcome as Settled}
use Rattle.store_files.specs.declared.file_tree.files.StoredFile.{StoredFile}
use Rattle.store_files.specs.declared.file_extents.extents.Extents.{Extents}
use Rattle.store_files.specs.file_extents.Kept.{IsContent}
use Rattle.run_command.specs.Listing.{AreNumbersOf, at_number, numbers_on}

-- ---- which files

-- FILE_CREATED is 2 (MS-SMB2 2.2.14)
abbrev pub was_created : Outcome → Bool
was_created (WasOk (Action action)) = action == 2
was_created _ = false

-- the path for which a create asks, but for a directory's
abbrev pub path_asked : OpKind → Option (List ℕ)
path_asked (kinds.Create path access share disposition persist directory) = if directory then None else Some path
path_asked _ = None

-- the create's own path, whatever was renamed later
abbrev pub path_with : OpKind → Option Settled → Option (List ℕ)
path_with kind None = None
path_with kind (Some outcome) = if was_created (outcome_of outcome) then path_asked kind else None

abbrev pub path_made : Option OpKind → Option Settled → Option (List ℕ)
path_made None outcome = None
path_made (Some kind) outcome = path_with kind outcome

-- ---- their bytes

-- what an operation that succeeded does to the bytes
abbrev pub bytes_by_one : OpKind → Option Settled → List ℕ → List ℕ
bytes_by_one kind None c = c
bytes_by_one kind (Some outcome) c = if is_ok (outcome_of outcome) then effect (content_op (op_of kind)) c else c

abbrev pub bytes_with : Option OpKind → Option Settled → List ℕ → List ℕ
bytes_with None outcome c = c
bytes_with (Some kind) outcome c = bytes_by_one kind outcome c

-- what those of these numbers do, one after the other
unfoldable pub bytes_by : List OpKind → List Settled → List ℕ → List ℕ → List ℕ
bytes_by ops outcomes [] c = c
bytes_by ops outcomes (g ∷ gs) c = bytes_by ops outcomes gs (bytes_with (at_number ops g) (at_number outcomes g) c)

abbrev pub file_with : Option (List ℕ) → List ℕ → List StoredFile
file_with None bytes = []
file_with (Some path) bytes = record { path = path; bytes = bytes } ∷ []

-- the file that an operation made
abbrev pub made_file : List OpKind → List Settled → List ℕ → ℕ → List StoredFile
made_file ops outcomes order number =
    file_with (path_made (at_number ops number) (at_number outcomes number)) (bytes_by ops outcomes (numbers_on ops order number) [])

-- those of the first so many operations, upwards by their creates' numbers
unfoldable pub made_files : List OpKind → List Settled → List ℕ → ℕ → List StoredFile
made_files ops outcomes order zero = []
made_files ops outcomes order (suc n) = made_files ops outcomes order n ++ made_file ops outcomes order (n + 1)

-- ---- in which order

-- by the bytes of their paths
abbrev pub comes_before : StoredFile → StoredFile → Bool
comes_before a b = is_lt (slice_cmp nat_cmp a.path b.path)

-- each once, by their paths, and those of one path as they stood
pub record AreByPath (made files : List StoredFile) : Type 0 where
  pub all : IsPermutation made files
  pub ascend : IsSortedBy comes_before files
  pub of_one_path : IsStableBy comes_before made files

-- ---- the steps towards them

-- the bytes go on by an operation
abbrev pub BytesGoBy : Option OpKind → Option Settled → Extents → Extents → Type 0
BytesGoBy op outcome old new = (c : List ℕ) → IsContent old c → IsContent new (bytes_with op outcome c)

-- the file of the operation at a place is added, where it made one
abbrev pub AddsMade : List OpKind → List Settled → List (List ℕ) → ℕ → List StoredFile → List StoredFile → Type 0
AddsMade ops outcomes lists place old new = (order : List ℕ) → AreNumbersOf ops order (length ops + 1) lists
    → new ≡ old ++ made_file ops outcomes order (place + 1)
