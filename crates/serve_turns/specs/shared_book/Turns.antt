-- The rule that every step on the table keeps, and what each kind of step tells.
use Rattle.std.specs.Prelude.{◌≡◌, ℕ, ◌+◌, ◌≤◌, ◌<◌, ◌==◌, Bool, true, false, List, [], ◌∷◌, ◌++◌, length, max, is_some, unwrap_or, ◌⊎◌}
use Rattle.std.specs.Prelude.{Some, None, Option as Perhaps}
use mathlib.Core.List.{IsPrefix}
use mathlib.Core.Option.{Option, some}
use lib.ListN.{get_elem?}
use Rattle.atomic_table.specs.Table.{State, Me, Step}
use Rattle.serve_turns.specs.declared.shared_book.view.Entry.{Entry}
use Rattle.serve_turns.specs.declared.shared_book.view.Stage.{Stage}
use Rattle.serve_turns.specs.declared.shared_book.view.Stage.TheVariants.{Idle, Waiting, Called, Holding, Advanced}
use Rattle.serve_turns.specs.declared.shared_book.view.View.{View}
use Rattle.serve_turns.specs.declared.shared_book.view.Slot.{Slot}
use Rattle.serve_turns.specs.declared.shared_book.view.Slot.TheVariants.{Opening, After, Away}
use Rattle.serve_turns.specs.shared_book.Histories.{Replays, entry_of, entries_of, AllPrefix, HaveAll}
use Rattle.serve_turns.specs.shared_book.Numbers.{AreApart, IsOneOf, held_numbers, seated_numbers}

-- the ticket of a seat in a turn, else 0
abbrev pub ticket_of : Stage → ℕ
ticket_of Idle = 0
ticket_of (Waiting t) = t
ticket_of (Called t) = t
ticket_of (Holding t) = t
ticket_of (Advanced t) = t

-- the ticket that a seat holds, if it holds one
abbrev pub held_ticket : Stage → Perhaps ℕ
held_ticket Idle = None
held_ticket (Waiting t) = Some t
held_ticket (Called t) = Some t
held_ticket (Holding t) = Some t
held_ticket (Advanced t) = Some t

-- What a stage says of the words. Each ticket has one owner among the seats, and past the stage of waiting it is the one being served.
abbrev pub InTurn : ℕ → ℕ → (ℕ → ℕ) → ℕ → Stage → Type 0
InTurn ticket serving owner j Idle = Unit {0}
InTurn ticket serving owner j (Waiting t) = (owner t ≡ j) × (serving ≤ t) × (t < ticket)
InTurn ticket serving owner j (Called t) = (owner t ≡ j) × (t ≡ serving) × (t < ticket)
InTurn ticket serving owner j (Holding t) = (owner t ≡ j) × (t ≡ serving) × (t < ticket)
InTurn ticket serving owner j (Advanced t) = (owner t ≡ j) × (t ≡ serving) × (t < ticket)

module _ {E R : Type 0} where
  -- a seat that has read the front in its turn has the whole history
  abbrev pub HasWhole : List (Entry E R) → List (Entry E R) → Stage → Type 0
  HasWhole log history (Holding t) = history ≡ log
  HasWhole log history (Advanced t) = history ≡ log
  HasWhole log history _ = Unit {0}

  -- new entries with the place of the first, of which there is at most one
  abbrev pub placed : ℕ → List (Entry E R) → List (ℕ × Entry E R)
  placed place [] = []
  placed place (e ∷ es) = (place, e) ∷ []

module _ {B E R : Type 0} where
  abbrev pub HasBook : B → Slot B E R → Type 0
  HasBook book (Opening x) = x ≡ book
  HasBook book (After x event reply) = x ≡ book
  HasBook book Away = ⊥

  -- the entry that lies beside the book, as one of this seat's number
  abbrev pub noted : ℕ → Slot B E R → List (Entry E R)
  noted number (After x event reply) = entry_of number event.value reply.value ∷ []
  noted number _ = []

  abbrev pub noted_in : ℕ → List (ℕ × Slot B E R) → List (Entry E R)
  noted_in number [] = []
  noted_in number (x ∷ xs) = noted number x.1

  -- What one view knows is true. The words, the history, and which seat owns a ticket or a number are those of the rule. A number that was
  -- drawn for a further seat has no entries, and one of a seat that was joined to this one has no others than those.
  module _ (opening : B) (ticket serving seats : ℕ) (log : List (Entry E R)) (owner seat_of : ℕ → ℕ) where
    pub record Knows (j : ℕ) (v : View B E R) : Type 0 where
      pub opens : (o : B) → v.opening ≡ Some o → o ≡ opening
      pub in_turn : InTurn ticket serving owner j v.stage
      pub whole : HasWhole log v.history v.stage
      pub seen : v.front ≤ length log
      pub begins : IsPrefix v.history log
      pub keeps : AllPrefix v.kept log
      pub mine : v.numbered ≡ true → (seat_of v.number ≡ j) × (v.number < seats) × (v.own ≡ entries_of v.number 0 log)
      pub unnumbered : v.numbered ≡ false → v.own ≡ []
      pub drawn : (n : ℕ) → v.drawn ≡ Some n → entries_of n 0 log ≡ []
      pub ended : HaveAll log v.ended
      pub held : (n : ℕ) → IsOneOf n (held_numbers v) → (seat_of n ≡ j) × (n < seats)
      pub apart : AreApart (held_numbers v)

  -- The book is at home, or it is out with the owner of the turn. The front is above the ticket being served only
  -- between that owner's advance and its pass.
  abbrev pub AtHome : B → ℕ → ℕ → ℕ → List (Option (Slot B E R)) → List (View B E R) → Type 0
  AtHome book front serving holder homes views =
      ((front ≤ serving) × ((slot : Slot B E R) × (homes ≡ some slot ∷ []) × HasBook book slot))
      ⊎ ((v : View B E R) × (get_elem? views holder ≡ some v) × (((v.stage ≡ Holding serving) × (front ≤ serving))
      ⊎ ((v.stage ≡ Advanced serving) × (front ≤ serving + 1))))

  -- the seat j has a view of which P holds
  abbrev pub SeatWith : (View B E R → Type 0) → List (View B E R) → ℕ → Type 0
  SeatWith P views j = (v : View B E R) × (get_elem? views j ≡ some v) × P v

  abbrev pub HoldsTicket : ℕ → View B E R → Type 0
  HoldsTicket t v = held_ticket v.stage ≡ Some t

  -- the view has this number, or the seat of this number was joined to it, or it was drawn for a further seat
  abbrev pub HoldsNumber : ℕ → View B E R → Type 0
  HoldsNumber n v = IsOneOf n (held_numbers v)

  -- the seat of number n was made by the one of number p, which is this one or was joined to it
  abbrev pub HasMade : ℕ → ℕ → View B E R → Type 0
  HasMade n p v = IsOneOf n v.made × IsOneOf p (seated_numbers v)

  -- each number but the first was drawn by a seat of a lower number
  abbrev pub AllMade : ℕ → (ℕ → ℕ) → (ℕ → ℕ) → List (View B E R) → Type 0
  AllMade seats maker seat_of views =
      (n : ℕ) → 0 < n → n < seats → (maker n < n) × SeatWith (HasMade n (maker n)) views (seat_of (maker n))

-- The rule of the turns, of the four words, the one slot and all views. Each number that was drawn is held by one seat: the one that has it, or
-- to which that one was joined, or which drew it. Each but the first was drawn by a seat of a lower number.
module _ {B E R : Type 0} (steps : B → E → R → B → Type 0) where
  pub record Kept (opening : B) (s : State (Slot B E R) (View B E R)) : Type 0 where
    pub ticket : ℕ
    pub serving : ℕ
    pub front : ℕ
    pub seats : ℕ
    pub log : List (Entry E R)
    pub book : B
    pub owner : ℕ → ℕ
    pub seat_of : ℕ → ℕ
    pub words_are : s.words ≡ ticket ∷ serving ∷ front ∷ seats ∷ []
    pub one_slot : length s.homes ≡ 1
    pub in_order : serving ≤ ticket
    pub front_is : front ≡ length log
    pub replays : Replays steps opening log book
    pub at_home : AtHome book front serving (owner serving) s.homes s.views
    pub each_seat : (j : ℕ) (v : View B E R) → get_elem? s.views j ≡ some v → Knows opening ticket serving seats log owner seat_of j v
    pub all_held : (t : ℕ) → serving ≤ t → t < ticket → SeatWith (HoldsTicket t) s.views (owner t)
    pub all_seated : (n : ℕ) → n < seats → SeatWith (HoldsNumber n) s.views (seat_of n)
    pub maker : ℕ → ℕ
    pub all_made : AllMade seats maker seat_of s.views
    pub none_later : (n : ℕ) → seats ≤ n → entries_of n 0 log ≡ []

abbrev pub called_if : Bool → ℕ → Stage
called_if true t = Called t
called_if false t = Waiting t

-- a waiting seat is called where the ticket being served is its own
abbrev pub called_by : ℕ → Stage → Stage
called_by serving (Waiting t) = called_if (serving == t) t
called_by serving stage = stage

-- a seat's view, and the slots that are out with it
abbrev pub Sat : Type 0 → Type 0 → Type 0 → Type 0
Sat B E R = Me (Slot B E R) (View B E R)

-- The views that the steps make.
module _ {B E R : Type 0} where
  abbrev pub first_view : B → View B E R
  first_view book = record {
    opening = Some book;
    numbered = true;
    number = 0;
    stage = Idle;
    front = 0;
    history = [];
    own = [];
    kept = [];
    ended = [];
    drawn = None;
    made = [];
  }

  -- what a seat is left with that was joined to another
  abbrev pub spent_view : View B E R
  spent_view = record {
    opening = None;
    numbered = false;
    number = 0;
    stage = Idle;
    front = 0;
    history = [];
    own = [];
    kept = [];
    ended = [];
    drawn = None;
    made = [];
  }

  abbrev pub staged : Stage → View B E R → View B E R
  staged stage v = record v { stage = stage }

  abbrev pub fronted : ℕ → View B E R → View B E R
  fronted front v = record v { front = front }

  -- the whole history is read in the turn
  abbrev pub holding : ℕ → List (Entry E R) → View B E R → View B E R
  holding front log v = record v { stage = Holding (ticket_of v.stage); front = front; history = log }

  -- the history goes on with new entries, which are the seat's own
  abbrev pub grown : ℕ → List (Entry E R) → View B E R → View B E R
  grown front es v = record v {
    stage = Advanced (ticket_of v.stage);
    front = front;
    history = v.history ++ es;
    own = v.own ++ placed v.front es;
  }

  -- the number was drawn for a seat that is to be made
  abbrev pub drew : ℕ → View B E R → View B E R
  drew n v = record v { drawn = Some n; made = n ∷ v.made }

  -- a seat of which another was made gave away the number it had drawn
  abbrev pub parted : View B E R → View B E R
  parted v = record v { drawn = None }

  -- a new seat has seen what the old one had, and has the number that was drawn for it; it has no entries
  abbrev pub newcomer : View B E R → View B E R
  newcomer v = record v {
    numbered = is_some v.drawn;
    number = unwrap_or v.drawn 0;
    stage = Idle;
    own = [];
    ended = [];
    drawn = None;
    made = [];
  }

  -- a seat of this number was made
  abbrev pub with_made : ℕ → View B E R → View B E R
  with_made n v = parted (drew n v)

  -- the seat of this number that was made
  abbrev pub made_with : ℕ → View B E R → View B E R
  made_with n v = newcomer (drew n v)

  -- A seat that took in another's view keeps its own history and entries, and all histories of both. The other has ended.
  abbrev pub rejoined : View B E R → View B E R → View B E R
  rejoined v w = record v {
    front = max v.front w.front;
    kept = w.history ∷ (v.kept ++ w.kept);
    ended = v.ended ++ (w.number, w.own) ∷ w.ended;
    made = v.made ++ w.made;
  }

-- What each kind of step tells, of the step, the seat before, the number found and the seat after.
module _ {B E R : Type 0} where
  abbrev pub drawn_if : Bool → ℕ → Sat B E R → Sat B E R
  drawn_if true t m = (staged (Waiting t) m.0, m.1)
  drawn_if false t m = m

  abbrev pub ticket_drawn : Step (Slot B E R) → Sat B E R → ℕ → Sat B E R → Type 0
  ticket_drawn st m found m' = m' ≡ drawn_if (found == st.first) st.first m

  abbrev pub turn_looked_for : Step (Slot B E R) → Sat B E R → ℕ → Sat B E R → Type 0
  turn_looked_for st m found m' = m' ≡ (staged (called_by found m.0.stage) m.0, m.1)

  pub record BookTaken (steps : B → E → R → B → Type 0) (m : Sat B E R) (found : ℕ) (m' : Sat B E R) : Type 0 where
    pub log : List (Entry E R)
    pub slot : Slot B E R
    pub book : B
    pub after : m' ≡ (holding found log m.0, (0, slot) ∷ m.1)
    pub front : found ≡ length log
    pub in_order : found ≤ ticket_of m.0.stage
    pub seen : m.0.front ≤ found
    pub has_book : HasBook book slot
    pub replays : (o : B) → m.0.opening ≡ Some o → Replays steps o log book
    pub begins : IsPrefix m.0.history log
    pub keeps : AllPrefix m.0.kept log
    pub mine : m.0.numbered ≡ true → m.0.own ≡ entries_of m.0.number 0 log

  abbrev pub book_taken : (B → E → R → B → Type 0) → Step (Slot B E R) → Sat B E R → ℕ → Sat B E R → Type 0
  book_taken steps st m found m' = BookTaken steps m found m'

  abbrev pub front_advanced : Step (Slot B E R) → Sat B E R → ℕ → Sat B E R → Type 0
  front_advanced st m found m' = m' ≡ (grown st.first (noted_in m.0.number m.1) m.0, m.1)

  abbrev pub turn_passed : Step (Slot B E R) → Sat B E R → ℕ → Sat B E R → Type 0
  turn_passed st m found m' = m' ≡ (staged Idle m.0, [])

  -- what the seat knows leads from the book's opening state
  abbrev pub front_peeked : (B → E → R → B → Type 0) → Step (Slot B E R) → Sat B E R → ℕ → Sat B E R → Type 0
  front_peeked steps st m found m' =
      (m' ≡ (fronted found m.0, m.1)) × (m.0.front ≤ found)
      × ((o : B) → m.0.opening ≡ Some o → (last : B) × Replays steps o m.0.history last)

  abbrev pub drew_if : Bool → ℕ → Sat B E R → Sat B E R
  drew_if true n m = (drew n m.0, m.1)
  drew_if false n m = m

  abbrev pub number_drawn : Step (Slot B E R) → Sat B E R → ℕ → Sat B E R → Type 0
  number_drawn st m found m' = m' ≡ drew_if (found == st.first) st.first m

  -- the book that is out took a step, and the event and the reply lie beside it
  abbrev pub Works : (B → E → R → B → Type 0) → Sat B E R → E → R → Sat B E R → Type 0
  Works steps m event reply m' =
      (book : B) → (slot : Slot B E R) → m.1 ≡ (0, slot) ∷ [] → HasBook book slot
      → (next : B) × (slot' : Slot B E R) × steps book event reply next × HasBook next slot'
      × ((n : ℕ) → noted n slot' ≡ entry_of n event reply ∷ []) × (m' ≡ (m.0, (0, slot') ∷ []))
