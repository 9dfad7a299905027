use Rattle.std.proofs.Common.{refl, true}
use Rattle.client_events.specs.declared.event_calls.steps.Event.TheVariants as events
use Rattle.client_book.specs.Steps.{finishing}
use Rattle.client_book.proofs.Turned.{leaves, with_shared}
use Rattle.client_book.proofs.book.ClientBook.give.Goals as goal

pub returns : goal.returns
returns c =
    let mid = c.take-told.new.self in
    let new = record mid { finished = true } in
    with_shared c.args.self.now mid new (events.Finish c.args.why) c.take-told.result finishing c.take-told.ensures
    (leaves mid new refl refl refl) refl
