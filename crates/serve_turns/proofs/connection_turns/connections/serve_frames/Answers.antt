use Rattle.std.proofs.Common.{inl, inr, refl}
use Rattle.serve_turns.specs.shared_book.Words.{view_of}
use Rattle.serve_turns.proofs.connection_turns.Watching.{first_bound, way_begins}
use Rattle.serve_turns.proofs.connection_turns.connections.serve_frames.Goals as goal

pub returns-in-Err-clause-frames : goal.returns-in-Err-clause-frames
returns-in-Err-clause-frames g c = inr (refl, refl, refl)

pub returns-clause-frames : goal.returns-clause-frames
returns-clause-frames g c =
    let b = c.in-Ok.ensures in inl (c.in-Ok.state, b.salt, b.shows, b.none, c.read_frames.ensures.frames)

pub read_frames-requires-clause-way : goal.read_frames-requires-clause-way
read_frames-requires-clause-way g c =
    let begun = c.args.begun.now in
    let b = c.in-Ok.ensures in
    way_begins g.L.Link.told g.L.Link.given g.L.Link.left g.L.Link.written g.L.Link.faults begun.guid begun.number
    (view_of begun.seat.value)
    (view_of c.args.seat.now) c.in-Ok.state b.salt begun.link.value c.args.link.now c.requires.taken c.requires.link b.shows b.none
    (first_bound b.salt)
