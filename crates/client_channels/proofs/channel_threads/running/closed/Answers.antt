use Rattle.serve_turns.specs.shared_book.Words.{view_of}
use Rattle.client_channels.proofs.channel_threads.Splitting.{if_ok_map}
use Rattle.client_channels.specs.channel_threads.Running.{EndsAs, HasRun}
use Rattle.client_channels.proofs.channel_threads.running.closed.Goals as goal

pub returns : goal.returns
returns g c =
    if_ok_map (λ client. EndsAs c.close-book.result.book client) (λ client. HasRun (view_of c.args.seat) client) c.ended.result
    (λ client h. record { last = c.close-book.result; closes = c.close-book.ensures.closes; ends = h }) c.ended.ensures
