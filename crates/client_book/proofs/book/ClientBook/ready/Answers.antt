use Rattle.client_events.specs.declared.event_calls.steps.Event.TheVariants as events
use Rattle.client_book.specs.Steps.{behind_ready}
use Rattle.client_book.proofs.Turned.{with_shared}
use Rattle.client_book.proofs.book.ClientBook.ready.Goals as goal

pub returns : goal.returns
returns c =
    with_shared c.args.self.now c.take-told.new.self c.end_ready.new.self (events.Ready c.args.channel c.args.session c.args.tree)
    c.take-told.result (λ s. behind_ready c.take-told.result c.args.channel s) c.take-told.ensures c.end_ready.ensures.client
    c.end_ready.ensures.shared
