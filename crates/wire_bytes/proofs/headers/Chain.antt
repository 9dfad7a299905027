-- Joined messages and one more.
use Rattle.std.proofs.Common.{ℕ, List, [], ◌∷◌, ◌++◌, refl, sym}
use Rattle.spec_wire.specs.messages.Compound.{IsJoined, AreJoined}
use Rattle.spec_wire.specs.declared.messages.header.Span.{Span}

pub joined_more : (frame : List ℕ) (from to : ℕ) (front : List Span) (next : ℕ) → AreJoined frame from front to
    → IsJoined frame (record { start = to; end = next }) → AreJoined frame from (front ++ (record {
      start = to;
      end = next;
    }) ∷ []) next
joined_more frame from to [] next front joins = (sym front, joins, refl)
joined_more frame from to (s ∷ ss) next front joins = (front.0, front.1, joined_more frame s.end to ss next front.2 joins)
