-- What the calls of a shared book promise, in terms of what its seats know.
use Rattle.std.specs.Prelude.{◌≡◌, ℕ, ◌+◌, ◌≤◌, Bool, true, false, List, [], ◌∷◌, ◌++◌, length, Some, None, slice_get, Option as Perhaps}
use mathlib.Core.List.{IsPrefix}
use Rattle.serve_turns.specs.declared.shared_book.view.Entry.{Entry}
use Rattle.serve_turns.specs.declared.shared_book.view.View.{View}
use Rattle.serve_turns.specs.shared_book.Histories.{Replays, entry_of, entries_of, AllPrefix, HaveAll}
use Rattle.serve_turns.specs.shared_book.Numbers.{AreApart, IsOneOf, IsWhole, numbers_of}

module _ {B : Type 0} where
  abbrev pub is_opened : Perhaps B → Bool
  is_opened (Some book) = true
  is_opened None = false

module _ {B E R : Type 0} where
  -- what the seat knows ends with its own last turn, and has all its turns
  abbrev pub EndsWithOwn : View B E R → Type 0
  EndsWithOwn v = (before : List (ℕ × Entry E R)) (last : ℕ × Entry E R) → v.own ≡ before ++ last ∷ []
      → (v.own ≡ entries_of v.number 0 v.history) × (length v.history ≡ last.0 + 1)

module _ {B E R : Type 0} (steps : B → E → R → B → Type 0) where
  -- what the seat knows is a history of its book, from the opening state on
  abbrev pub IsHistory : View B E R → Type 0
  IsHistory v = (opening : B) × (last : B) × (v.opening ≡ Some opening) × Replays steps opening v.history last

  -- Between v and w the seat gave the book one event, at this place. The history goes on from all that the seat had
  -- seen and ends with this event.
  pub record Applied (v : View B E R) (event : E) (reply : R) (place : ℕ) (w : View B E R) : Type 0 where
    pub same_opening : w.opening ≡ v.opening
    pub is_history : IsHistory w
    pub long : length w.history ≡ place + 1
    pub before : List (Entry E R)
    pub ends : w.history ≡ before ++ entry_of v.number event reply ∷ []
    pub former : IsPrefix v.history before
    pub former_kept : AllPrefix v.kept before
    pub seen : v.front ≤ place
    pub front : w.front ≡ place + 1
    pub own : w.own ≡ v.own ++ (place, entry_of v.number event reply) ∷ []
    pub own_are : w.own ≡ entries_of v.number 0 w.history
    pub same_number : w.number ≡ v.number
    pub same_kept : w.kept ≡ v.kept

  -- A history gives this book. It goes on from all that the seat had seen, and has the seat's own entries at their places, and those of
  -- each seat that was joined to it: these are all of their numbers, and no two of these numbers are one. Where all seats that were made
  -- have been joined to it, each entry is of one of them.
  pub record Closes (v : View B E R) (book : B) : Type 0 where
    pub opening : B
    pub log : List (Entry E R)
    pub opens : v.opening ≡ Some opening
    pub replays : Replays steps opening log book
    pub former : IsPrefix v.history log
    pub former_kept : AllPrefix v.kept log
    pub seen : v.front ≤ length log
    pub own_are : v.own ≡ entries_of v.number 0 log
    pub ended_are : HaveAll log v.ended
    pub apart : AreApart (numbers_of v)
    pub none_else : IsWhole v → (place : ℕ) (e : Entry E R) → slice_get log place ≡ Some e → IsOneOf e.seat (numbers_of v)
