use Rattle.std.specs.Prelude.{◌%◌, ◌^◌}
use Rattle.serve_turns.specs.connection_turns.Serving.{Serves}
use Rattle.serve_turns.proofs.connection_turns.Served.{serves_none}
use Rattle.serve_turns.proofs.connection_turns.connections.ConnectionsServiceEventBook.turn_away.Goals as goal

pub returns : goal.returns
returns g c = λ number view.
    let e = c.note.ensures in
    serves_none g.L.Link.told g.L.Link.given g.L.Link.left g.L.Link.written g.L.Link.faults g.L.Link.ended
    (λ place passed from end to. Serves c.args.self.now.guid (place % 2 ^ 32) passed from end to) number c.args.self.now.guid
    (number % 2 ^ 32) view c.args.link.now c.note.new.self c.by-end.result (λ p s. s) c.by-end.ensures
    (λ t. ((e.bytes t).0, (e.bytes t).1, (e.bytes t).2)) e.calm
