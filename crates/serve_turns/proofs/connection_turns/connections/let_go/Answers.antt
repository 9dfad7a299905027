use Rattle.std.proofs.Common.{Bool, sym, subst, ◌∙◌, refl}
use Rattle.serve_turns.specs.shared_book.Words.{view_of}
use Rattle.serve_turns.specs.connection_turns.Serving.{LetsGoBy}
use Rattle.serve_turns.proofs.connection_turns.connections.let_go.Goals as goal

pub returns-then-has_lost-clause-turns : goal.returns-then-has_lost-clause-turns
returns-then-has_lost-clause-turns g c =
    subst (λ (b : Bool). LetsGoBy b c.args.number (view_of c.args.seat.now) (view_of c.hear_in_turn.new.seat))
    (sym (sym c.has_lost.ensures ∙ c.if-has_lost.true)) (c.hear_in_turn.result, c.hear_in_turn.ensures.hears)

pub returns-clause-turns : goal.returns-clause-turns
returns-clause-turns g c =
    subst (λ (b : Bool). LetsGoBy b c.args.number (view_of c.args.seat.now) (view_of c.args.seat.now))
    (sym (sym c.has_lost.ensures ∙ c.if-has_lost.false)) refl
