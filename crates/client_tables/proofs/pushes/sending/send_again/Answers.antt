use Rattle.client_tables.proofs.pushes.Sent.{other_again, other_slots_again}
use Rattle.client_tables.proofs.pushes.sending.send_again.Goals as goal

pub returns-clause-shown : goal.returns-clause-shown
returns-clause-shown c = λ d holders slot s session lock sent.
    other_again c.put_again.new.rows holders c.put_again.new.prices c.args.watchers.now d c.args.channel c.args.index slot sent lock
    (c.put_again.ensures.shown d holders s session)

pub returns-clause-slots : goal.returns-clause-slots
returns-clause-slots c = λ d slots number create slot h lock sent.
    other_slots_again c.args.rows.now c.put_again.new.rows slots number d c.args.channel c.args.index slot create
    c.put_again.ensures.firm sent lock h
