-- Words on a book and its seats.
use Rattle.std.specs.Prelude.{◌≡◌, ℕ, List, Option as Perhaps}
use Rattle.serve_turns.specs.declared.shared_book.view.Entry.{Entry}
use Rattle.serve_turns.specs.declared.shared_book.view.View.{View}
use Rattle.serve_turns.specs.declared.shared_book.shared.TurnSeat.{TurnSeat}
use Rattle.serve_turns.specs.declared.shared_book.shared.TurnTable.{TurnTable}

module _ {B E R : Type 0} where
  -- what no turn of a seat changes: the book's opening state, its number, the seats that were joined to it, and those made from it
  abbrev pub lasting : View B E R → Perhaps B × (ℕ × (List (ℕ × List (ℕ × Entry E R)) × List ℕ))
  lasting v = (v.opening, (v.number, (v.ended, v.made)))

module _ {S B E R : Type 0} where
  -- what a seat knows
  abbrev pub view_of : TurnSeat S B E R → View B E R
  view_of seat = seat.seat.me.0

  abbrev pub IsSeatAt : TurnSeat S B E R → TurnSeat S B E R → Type 0
  IsSeatAt old new = (new.seat.table_id ≡ old.seat.table_id) × (new.seat.id ≡ old.seat.id)

  -- the same seat of the same book, which took in no other, and of which none was made
  abbrev pub IsSameSeat : TurnSeat S B E R → TurnSeat S B E R → Type 0
  IsSameSeat old new = (new.seat.table_id ≡ old.seat.table_id) × (new.seat.id ≡ old.seat.id) × (lasting (view_of new) ≡ lasting (view_of old))

  -- two seats of one book
  abbrev pub AreOfOneBook : TurnSeat S B E R → TurnSeat S B E R → Type 0
  AreOfOneBook seat other = other.seat.table_id ≡ seat.seat.table_id

  module _ {V K P : Type 0} where
    abbrev pub IsSeatOf : TurnTable S V K P → TurnSeat S B E R → Type 0
    IsSeatOf book seat = seat.seat.table_id ≡ book.table.shared.table_id
