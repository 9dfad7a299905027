use Rattle.conn_core.proofs.requests.Looks.{as_carried, as_heard, as_denied, is_it}
use Rattle.conn_core.proofs.requests.hearing.event.Goals as goal

pub returns-in-Ok : goal.returns-in-Ok
returns-in-Ok c = λ z L f m k here shows told.
    let a = c.checked-checked.result.now in
    let b = c.message-message.result.now in
    let bytes = c.args.frame.now.bytes.items in
    let e = is_it c.args.frame.now c.args.at a m c.checked-checked.ensures here in
    let g = c.message-message.ensures m here in
    c.event_if.ensures z L f k (as_carried bytes m a b k e g shows) (as_heard bytes m a b k e g shows) (as_denied bytes m a k e shows) told
    c.in-Ok.ensures.reads
