use Rattle.std.specs.Prelude.{slice_get}
use Rattle.conn_core.proofs.reply_frames.Steps.{place_else, place_then}
use Rattle.conn_core.proofs.reply_frames.adding.place_behind.Goals as goal

pub returns-then-has_event-clause-is : goal.returns-then-has_event-clause-is
returns-then-has_event-clause-is c =
    place_then (slice_get c.args.asked.now.messages.items c.args.at) c.checked.result.now c.has_event.result c.args.place c.checked.ensures
    c.has_event.ensures c.if-has_event.true

pub returns-else-has_event-clause-is : goal.returns-else-has_event-clause-is
returns-else-has_event-clause-is c =
    place_else (slice_get c.args.asked.now.messages.items c.args.at) c.checked.result.now c.has_event.result c.args.place c.checked.ensures
    c.has_event.ensures c.if-has_event.false
