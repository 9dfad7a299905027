use Rattle.std.proofs.Common.{◌<◌, sym, subst}
use Rattle.spec_exchange.specs.Client.{create_for}
use Rattle.client_tables.proofs.pushes.Sent.{have_moved, lock_again, lock_slots_again}
use Rattle.client_tables.proofs.pushes.sending.send_lock_again.Goals as goal

pub returns-clause-users : goal.returns-clause-users
returns-clause-users c =
    have_moved c.args.rows.now c.put_again.new.rows c.args.slots.now.items c.retry.new.slots.items c.put_again.ensures.count
    c.retry.ensures.count c.retry.ensures.users c.requires.users

pub returns-clause-shown : goal.returns-clause-shown
returns-clause-shown c = λ d holders slot s session lock sent.
    lock_again c.put_again.new.rows holders c.put_again.new.prices c.args.watchers.now d c.args.channel c.args.index slot sent lock
    (c.put_again.ensures.shown d holders s session)

pub returns-clause-slots : goal.returns-clause-slots
returns-clause-slots c = λ d holders slot s session h lock sent.
    let old = c.args.rows.now in
    let x = c.args.index in
    lock_slots_again old c.put_again.new.rows c.retry.new.slots.items d.session_number d c.args.channel x slot (create_for d x)
    c.put_again.ensures.firm sent (c.retry.ensures.shown d old session lock (s.sends.slot_is x) h)

pub returns-clause-positive : goal.returns-clause-positive
returns-clause-positive c = λ used p l.
    subst (λ u. 0 < u) (sym (c.retry.ensures.users p)) (used p (subst (λ n. p < n) c.retry.ensures.count l))

pub returns-clause-slot_count : goal.returns-clause-slot_count
returns-clause-slot_count c = c.retry.ensures.count
