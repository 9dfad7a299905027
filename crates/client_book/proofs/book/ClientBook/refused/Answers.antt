use Rattle.client_events.specs.declared.event_calls.steps.Event.TheVariants as events
use Rattle.client_book.specs.Steps.{ended_on}
use Rattle.client_book.proofs.Turned.{with_shared}
use Rattle.client_book.proofs.book.ClientBook.refused.Goals as goal

pub returns : goal.returns
returns c =
    with_shared c.args.self.now c.take-told.new.self c.end_dialog.new.self (events.Refused c.args.channel c.args.why) c.take-told.result
    (λ s. ended_on c.args.channel s) c.take-told.ensures c.end_dialog.ensures.client c.end_dialog.ensures.shared
