use Rattle.serve_turns.specs.shared_book.Words.{view_of}
use Rattle.serve_turns.proofs.connection_turns.Watching.{looked}
use Rattle.serve_turns.proofs.connection_turns.onlooking.look_on.Goals as goal

pub before_write-requires : goal.before_write-requires
before_write-requires g c =
    let begun = c.args.begun.now in
    looked g.L.Link.told g.L.Link.given g.L.Link.left g.L.Link.written g.S.Serve.shows g.S.Serve.stopped g.S.Serve.faults begun.guid
    begun.number
    (view_of begun.seat.value) (view_of c.args.seat.now) (view_of c.peek.new.seat) begun.link.value c.args.link.now c.peek.result
    c.args.answer.now c.peek.ensures.front c.peek.ensures.history c.requires.due
