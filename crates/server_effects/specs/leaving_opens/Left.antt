-- Opens that left, as the code keeps them: how many of each file's did, which files are delete pending by them, and which went.
use Rattle.std.specs.Prelude.{◌≡◌, ℕ, ◌+◌, ◌==◌, Bool, false, not, ◌&&◌, ◌||◌, if◌then◌else◌, Option, Some, None, nat_eq}
use Rattle.std.specs.HashMap.{get}
use Rattle.std.specs.HashSet as set
use Rattle.spec_exchange.specs.State as model
use Rattle.law_records.specs.leaving_opens.Since.{LeftSince, was_pending, deletes_at_close, is_last, is_last_full, goes_with, is_kept_with}
use Rattle.server_effects.specs.declared.leaving_opens.leaving.Left.{Left}
use Rattle.server_effects.specs.declared.leaving_opens.leaving.Leaving.{Leaving}
use Rattle.server_effects.specs.declared.leaving_opens.step.Step.{Step}
use Rattle.server_effects.specs.Fates.{fate_of}

abbrev pub no_left : Left
no_left = record { opens = 0; pending = false }

abbrev pub left_of : Option Left → Left
left_of None = no_left
left_of (Some l) = l

abbrev pub opens_left : Leaving → ℕ → ℕ
opens_left l f = (left_of (get nat_eq l.files f)).opens

abbrev pub marked_by : Leaving → ℕ → Bool
marked_by l f = (left_of (get nat_eq l.files f)).pending

abbrev pub went_with : Leaving → ℕ → Bool
went_with l f = set.contains nat_eq l.gone f

abbrev pub HasLeft : Leaving → model.Server → model.Server → Type 0
HasLeft l s u = LeftSince (opens_left l) (marked_by l) (went_with l) s u

-- a file that is delete pending goes with its last open
abbrev pub goes_now : Leaving → model.Server → model.Server → ℕ → Bool → Bool
goes_now l s u f pending = pending && is_last (opens_left l) s u f

-- or stays without its mark
abbrev pub kept_now : Leaving → model.Server → model.Server → ℕ → Bool → Bool
kept_now l s u f pending = pending && is_last_full (opens_left l) s u f

-- what one more open that leaves makes of its file
pub record IsStep (l : Leaving) (s u : model.Server) (row : model.Open) (p : Step) : Type 0 where
  pub opens_is : p.left.opens ≡ opens_left l row.file + 1
  pub pending_is : p.left.pending ≡ (was_pending (marked_by l) s row.file || deletes_at_close row)
  pub marks_is : p.marks ≡ (deletes_at_close row && not (was_pending (marked_by l) s row.file))
  pub fate_is : p.fate ≡ fate_of (is_kept_with (opens_left l) (marked_by l) s u row) (goes_with (opens_left l) (marked_by l) s u row)

-- from the one to the other, this is what is left of a file, which goes or doesn't
abbrev pub IsPut : Leaving → Leaving → ℕ → Left → Bool → Type 0
IsPut l m file left goes = ((q : ℕ) → get nat_eq m.files q ≡ (if q == file then Some left else get nat_eq l.files q))
    × ((q : ℕ) → set.contains nat_eq m.gone q
    ≡ (if q == file then goes || set.contains nat_eq l.gone q else set.contains nat_eq l.gone q))
