-- A turn of a connection, from what the seat's call tells.
use Rattle.std.proofs.Common.{◌≡◌, ℕ, List, [], ◌∷◌, ◌++◌, Option, Some, None, sym, ap, subst, ◌∙◌}
use Rattle.spec_crypto.specs.tokens.Tokens.{Users}
use Rattle.spec_exchange.specs.State as model
use Rattle.spec_world.specs.Ends.{Logons}
use Rattle.conn_core.specs.declared.frame_messages.checked.CheckedFrame.{CheckedFrame}
use Rattle.serve_turns.specs.declared.event_book.book.EventBook.{EventBook}
use Rattle.serve_turns.specs.declared.event_book.turn.Answer.{Answer}
use Rattle.serve_turns.specs.declared.event_book.turn.Asks.{Asks}
use Rattle.serve_turns.specs.declared.event_book.turn.Turn.{Turn}
use Rattle.serve_turns.specs.declared.shared_book.view.Entry.{Entry}
use Rattle.serve_turns.specs.declared.shared_book.view.View.{View}
use Rattle.serve_turns.specs.connection_turns.Turning.{message_turn}
use Rattle.serve_turns.specs.event_book.Steps.{AsksEvent, EventSteps}
use Rattle.serve_turns.specs.shared_book.Histories.{Replays, entry_of}
use Rattle.serve_turns.specs.shared_book.Seats.{Applied}

module _ {B E R : Type 0} (steps : B → E → R → B → Type 0) where
  -- the book before the last event, and behind it
  last_step : (from : B) (xs : List (Entry E R)) (e : Entry E R) (to : B) → Replays steps from (xs ++ e ∷ []) to
      → (old : B) × (new : B) × steps old e.event e.reply new
  last_step from [] e to (next, step, rest) = (from, next, step)
  last_step from (x ∷ xs) e to (next, step, rest) = last_step next xs e to rest

  -- the last event of a history is a step of the book
  pub applied_step : (v w : View B E R) (event : E) (reply : R) (place : ℕ) → Applied steps v event reply place w
      → (old : B) × (new : B) × steps old event reply new
  applied_step v w event reply place a =
      let h = a.is_history in
      last_step h.0 a.before (entry_of v.number event reply) h.1
      (subst (λ (l : List (Entry E R)). Replays steps h.0 l h.1) a.ends h.3)

pub some_none : (o : Option CheckedFrame) (x : CheckedFrame) → o ≡ Some x → o ≡ None → ⊥
some_none o x p q = no_some (sym p ∙ q)
  where
    no_some : Some x ≡ None → ⊥
    no_some e = absurd cc

or_that : CheckedFrame → Option CheckedFrame → CheckedFrame
or_that d None = d
or_that d (Some x) = x

pub one_frame : (o : Option CheckedFrame) (x y : CheckedFrame) → o ≡ Some x → o ≡ Some y → x ≡ y
unfolding or_that
one_frame o x y p q = ap (λ (r : Option CheckedFrame). or_that x r) (sym p ∙ q)

-- what a message's event says of itself
module _ {S : Type 0} (shows : S → Users → model.Server → Logons → List model.Record → Type 0) (stopped : S → Option ℕ)
    (faults : S → ℕ) where
  pub message_step : (v w : View (EventBook S) Turn Answer) (now : ℕ) (a : Asks) (t : Answer) (place : ℕ)
      → Applied (EventSteps shows stopped faults) v (message_turn now a) t place w
      → (old : EventBook S) × (new : EventBook S) × AsksEvent shows stopped faults old now a t new
  message_step v w now a t place applied =
      let step = applied_step (EventSteps shows stopped faults) v w (message_turn now a) t place applied in (step.2.0, step.1, step.2.2)
