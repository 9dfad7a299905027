-- The history of a book: what each seat asked, and what was replied.
use Rattle.std.specs.Prelude.{◌≡◌, ℕ, ◌+◌, ◌==◌, Bool, true, false, List, [], ◌∷◌, ◌++◌}
use mathlib.Core.List.{IsPrefix}
use Rattle.serve_turns.specs.declared.shared_book.view.Entry.{Entry}

module _ {B E R : Type 0} (steps : B → E → R → B → Type 0) where
  -- the history leads from one state to another, and each reply is the step's at its place
  abbrev pub Replays : B → List (Entry E R) → B → Type 0
  Replays from [] to = from ≡ to
  Replays from (e ∷ es) to = (next : B) × steps from e.event e.reply next × Replays next es to

module _ {E R : Type 0} where
  abbrev pub entry_of : ℕ → E → R → Entry E R
  entry_of seat event reply = record { seat = seat; event = event; reply = reply }

  abbrev pub entry_if : Bool → ℕ → Entry E R → List (ℕ × Entry E R)
  entry_if true place e = (place, e) ∷ []
  entry_if false place e = []

  -- the entries of a seat's number, each with its place, in a history that begins at some place
  abbrev pub entries_of : ℕ → ℕ → List (Entry E R) → List (ℕ × Entry E R)
  entries_of number place [] = []
  entries_of number place (e ∷ es) =
      entry_if (e.seat == number) place e ++ entries_of number (place + 1) es

  -- each of these numbers has these entries of the history, and no others
  abbrev pub HaveAll : List (Entry E R) → List (ℕ × List (ℕ × Entry E R)) → Type 0
  HaveAll log [] = Unit {0}
  HaveAll log (x ∷ xs) = (x.1 ≡ entries_of x.0 0 log) × HaveAll log xs

  -- each of these histories is a beginning of the last one
  abbrev pub AllPrefix : List (List (Entry E R)) → List (Entry E R) → Type 0
  AllPrefix [] log = Unit {0}
  AllPrefix (h ∷ hs) log = IsPrefix h log × AllPrefix hs log
