-- The seats of a client's channels.
use Rattle.std.specs.Prelude.{◌≡◌, ℕ, ◌<◌, List, [], length, slice_index_or}
use Rattle.serve_turns.specs.declared.shared_book.view.Entry.{Entry}
use Rattle.serve_turns.specs.declared.shared_book.view.View.{View}

-- it holds of each element at its place
abbrev pub EachAt : {X : Type 0} → (ℕ → X → Type 0) → List X → Type 0
EachAt {X} P xs = (k : ℕ) (d : X) → k < length xs → P k (slice_index_or xs k d)

module _ {B E R : Type 0} where
  -- no seat was joined to it, and none was made from it
  abbrev pub IsAlone : View B E R → Type 0
  IsAlone v = (v.ended ≡ []) × (v.made ≡ [])

  -- what stays of a seat from which others are made, and to which they are joined
  abbrev pub KeepsOwn : View B E R → View B E R → Type 0
  KeepsOwn v w = (w.opening ≡ v.opening) × (w.number ≡ v.number) × (w.own ≡ v.own)

  -- its number, and its own entries
  abbrev pub seat_told : View B E R → ℕ × List (ℕ × Entry E R)
  seat_told v = (v.number, v.own)
