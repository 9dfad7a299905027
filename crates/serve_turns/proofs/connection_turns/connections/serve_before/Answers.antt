use Rattle.std.proofs.Common.{sym, subst, ◌∙◌}
use Rattle.serve_turns.specs.connection_turns.Due.{IsTakenIn}
use Rattle.serve_turns.specs.shared_book.Words.{view_of}
use Rattle.serve_turns.proofs.connection_turns.Served.{let_go, taken_served}
use Rattle.serve_turns.proofs.connection_turns.Watching.{taken_behind_turn}
use Rattle.serve_turns.proofs.connection_turns.connections.serve_before.Goals as goal

pub returns-in-None-clause-served : goal.returns-in-None-clause-served
returns-in-None-clause-served g c =
    taken_served g.L.Link.told g.L.Link.given g.L.Link.left g.L.Link.written g.L.Link.faults g.L.Link.ended _ _ _ _ _ _ _ _ _
    c.hear_in_turn-reply.ensures.hears (sym c.refusal_of.ensures ∙ c.in-None.is) c.serve_taken.ensures.rest

pub returns-clause-served : goal.returns-clause-served
returns-clause-served g c =
    let_go g.L.Link.told g.L.Link.given g.L.Link.left g.L.Link.written g.L.Link.faults g.L.Link.ended _ _ _ _ _ _ _ c.in-Some.why _
    c.hear_in_turn-reply.ensures.hears (sym c.refusal_of.ensures ∙ c.in-Some.is) c.let_go.ensures.turns c.let_go.ensures.end

pub serve_taken-requires-clause-taken : goal.serve_taken-requires-clause-taken
serve_taken-requires-clause-taken g c =
    subst (λ s. IsTakenIn c.args.number (view_of s) (view_of c.hear_in_turn-reply.new.seat)) (sym c.of.ensures)
    (taken_behind_turn g.L.Link.told g.L.Link.given g.L.Link.left g.L.Link.written g.L.Link.faults _ _ _ _
    c.hear_in_turn-reply.ensures.hears
    (sym c.refusal_of.ensures ∙ c.in-None.is))
