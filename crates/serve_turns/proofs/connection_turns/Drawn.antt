-- Random bytes that turns are told of.
use Rattle.std.proofs.Common.{ℕ, Bool, List, [], ◌∷◌, sym, subst}
use Rattle.rand_core.specs.Stream.{Stream}
use Rattle.serve_turns.specs.connection_turns.Drawing.{AllToldDrawn, IsDrawnIf, ToldDrawn}
use Rattle.serve_turns.specs.connection_turns.Frames.{AreAtOnce, AreOfSuch, HasBytes, IsOfSuch}
use Rattle.serve_turns.specs.declared.event_book.turn.What.{What}
use Rattle.serve_turns.specs.declared.event_book.turn.What.TheVariants.{Accept, Message, End}
use Rattle.serve_turns.specs.event_book.History.{Placed}

module _ {R : Type 0} (stream : R → Stream) (setup : Bool) (now : ℕ) (fresh : List ℕ) where
  one_told : (w : What) → IsDrawnIf stream setup fresh → HasBytes fresh w → IsOfSuch setup w → ToldDrawn stream w
  one_told (Accept k) drawn bytes such = tt
  one_told (Message a) drawn bytes such =
      subst (λ (b : Bool). IsDrawnIf stream b a.told.fresh) (sym such) (subst (λ (l : List ℕ). IsDrawnIf stream setup l) (sym bytes) drawn)
  one_told (End k) drawn bytes such = tt

  -- each of some turns with the same bytes, for messages of a frame that holds a SESSION_SETUP, or of one that doesn't
  pub told_drawn : (turns : List Placed) → IsDrawnIf stream setup fresh → AreAtOnce now fresh turns → AreOfSuch setup turns
      → AllToldDrawn stream turns
  told_drawn [] drawn once such = tt
  told_drawn (x ∷ xs) drawn once such = (one_told x.1.event.what drawn once.1 such.0, told_drawn xs drawn once.2 such.1)
