-- What a turn at the client tells, from what the seat's call tells.
use Rattle.std.proofs.Common.{ℕ, List, [], ◌∷◌, ◌++◌, inl, inr, sym, subst}
use Rattle.client_events.specs.declared.event_calls.steps.Act.{Act}
use Rattle.client_events.specs.declared.event_calls.steps.Act.TheVariants as acts
use Rattle.client_steps.specs.declared.whole_client.client.Client.{Client as Core}
use Rattle.serve_turns.specs.declared.shared_book.view.Entry.{Entry}
use Rattle.serve_turns.specs.declared.shared_book.view.View.{View}
use Rattle.serve_turns.specs.shared_book.Histories.{Replays, entry_of}
use Rattle.serve_turns.specs.shared_book.Seats.{Applied}
use Rattle.client_book.specs.Steps.{ClientSteps, TellsAct}
use Rattle.client_channels.specs.channel_turns.Sharing.{TurnSteps}
use Rattle.client_channels.specs.channel_turns.Turning.{CanSendTold}
use Rattle.client_channels.specs.declared.channel_turns.shared_client.ClientTurns.{ClientTurns}
use Rattle.client_book.specs.declared.book.ClientBook.{ClientBook}
use Rattle.client_book.specs.declared.turn.Told.{Told}
use Rattle.client_book.specs.declared.turn.Turn.{Turn}
use Rattle.client_book.specs.declared.turn.Turn.TheVariants as turns

module _ {B E R : Type 0} (steps : B → E → R → B → Type 0) where
  -- the book before the last event, and behind it
  last_step : (from : B) (xs : List (Entry E R)) (e : Entry E R) (to : B) → Replays steps from (xs ++ e ∷ []) to
      → (old : B) × (new : B) × steps old e.event e.reply new
  last_step from [] e to (next, step, rest) = (from, next, step)
  last_step from (x ∷ xs) e to (next, step, rest) = last_step next xs e to rest

  -- the last event of a history is a step of the book
  pub applied_step : (v w : View B E R) (event : E) (reply : R) (place : ℕ) → Applied steps v event reply place w
      → (old : B) × (new : B) × steps old event reply new
  applied_step v w event reply place a =
      let h = a.is_history in
      last_step h.0 a.before (entry_of v.number event reply) h.1
      (subst (λ (l : List (Entry E R)). Replays steps h.0 l h.1) a.ends h.3)

of_act : (act : Act) (client : Core) (salt : ℕ) (told : Told) → TellsAct act client salt told → CanSendTold told
of_act acts.Nothing client salt told is = subst (λ (t : Told). CanSendTold t) (sym is) tt
of_act (acts.Sends g) client salt told h = subst (λ (t : Told). CanSendTold t) (sym h.is) h.asks.sends
of_act (acts.Asks g) client salt told h = subst (λ (t : Told). CanSendTold t) (sym h.is) h.asks.sends
of_act acts.CloseChannel client salt told is = subst (λ (t : Told). CanSendTold t) (sym is) tt
of_act acts.CloseChannels client salt told is = subst (λ (t : Told). CanSendTold t) (sym is) tt
of_act acts.AllSettled client salt told is = subst (λ (t : Told). CanSendTold t) (sym is) tt

of_step : (old : ClientBook) (channel credits : ℕ) (told : Told) (new : ClientBook) → ClientSteps old (turns.Push channel credits) told new
    → CanSendTold told
of_step old channel credits told new (inl s) = subst (λ (t : Told). CanSendTold t) (sym s.is) tt
of_step old channel credits told new (inr (going, (h, same))) = of_act h.act new.client old.salt told h.tells

-- a line can send what a push is told to send
pub can_send : (v w : View ClientTurns Turn Told) (channel credits : ℕ) (told : Told) (place : ℕ)
    → Applied TurnSteps v (turns.Push channel credits) told place w → CanSendTold told
can_send v w channel credits told place a =
    let s = applied_step TurnSteps v w (turns.Push channel credits) told place a in
    of_step s.0.book channel credits told s.1.book s.2
