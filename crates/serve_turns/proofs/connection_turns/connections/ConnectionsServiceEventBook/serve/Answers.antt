use Rattle.std.specs.Prelude.{◌%◌, ◌^◌}
use Rattle.serve_turns.specs.connection_turns.Serving.{Serves}
use Rattle.serve_turns.proofs.connection_turns.Served.{serves_by}
use Rattle.serve_turns.proofs.connection_turns.connections.ConnectionsServiceEventBook.serve.Goals as goal

pub returns-clause-serves : goal.returns-clause-serves
returns-clause-serves g c =
    let e = c.note.ensures in
    serves_by g.L.Link.told g.L.Link.given g.L.Link.left g.L.Link.written g.L.Link.faults g.L.Link.ended
    (λ number passed from end to. Serves c.args.self.now.guid (number % 2 ^ 32) passed from end to) c.args.number c.args.self.now.guid
    (c.args.number % 2 ^ 32) _ _ _ _ _ _ (λ p s. s) c.serve_connection-end.ensures.served
    (λ t. ((e.bytes t).0, (e.bytes t).1, (e.bytes t).2)) e.end e.calm
