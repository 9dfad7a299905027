-- The places of messages among those that the server took, in code.
use Rattle.std.specs.Prelude.{◌≡◌, ℕ, ◌+◌, ◌<◌, List, length, slice_index, slice_index_or, Option, None}
use Rattle.world_ends.specs.declared.world.Marks.{Marks}
use Rattle.world_ends.specs.declared.world.Places.{Places}

abbrev pub no_marks : Marks
no_marks = record { first = None; by = None; birth = 0 }

abbrev pub marks_at : List Marks → ℕ → Marks
marks_at marks g = slice_index_or marks g no_marks

-- the client took so many operations; of a log the places, whose messages they are, each operation's first one, and each create's birth
pub record ChannelShowsPlaces (x : Places) (taken : ℕ) (settled_by : ℕ → Option ℕ) (places : ℕ) (who : ℕ → ℕ) (first : ℕ → Option ℕ)
    (birth : ℕ → ℕ) : Type 0 where
  pub places_are : places ≡ length x.served.items
  pub who_is : (n : ℕ) → n < length x.served.items → who n ≡ slice_index x.served.items n
  pub counted : length x.marks.items ≡ taken + 1
  pub first_is : (g : ℕ) → first g ≡ (marks_at x.marks.items g).first
  pub by_is : (g : ℕ) → settled_by g ≡ (marks_at x.marks.items g).by
  pub birth_is : (g : ℕ) → birth g ≡ (marks_at x.marks.items g).birth
