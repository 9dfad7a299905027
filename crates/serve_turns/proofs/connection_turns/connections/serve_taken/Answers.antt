use Rattle.serve_turns.proofs.connection_turns.Served.{rest_by}
use Rattle.serve_turns.proofs.connection_turns.connections.serve_taken.Goals as goal

pub returns-clause-rest : goal.returns-clause-rest
returns-clause-rest g c =
    rest_by g.L.Link.told g.L.Link.given g.L.Link.left g.L.Link.written g.L.Link.faults g.L.Link.ended _ _ _ _ _ _ _ _ _ _
    c.serve_frames-why.ensures.frames c.hear_in_turn-last.ensures.hears c.ended.ensures
