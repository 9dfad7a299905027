use Rattle.std.proofs.Common.{◌+◌, false, List, length, sym, subst}
use Rattle.spec_exchange.specs.Client.{create_for, take_slot}
use Rattle.client_rows.specs.declared.operation_rows.slots.Slot.{Slot}
use Rattle.client_rows.specs.lock_slots.Shown.{AreUsed, HaveRows, ShowsSlots}
use Rattle.client_rows.proofs.lock_slots.Showing.{have_more, number_more, shows_more}
use Rattle.client_rows.proofs.lock_slots.Used.{used_more}
use Rattle.client_rows.proofs.lock_slots.using.take_unused.Goals as goal

pub returns-clause-shown : goal.returns-clause-shown
returns-clause-shown c = λ d rows session h firm. subst (λ (xs : List Slot). ShowsSlots rows xs session
    (take_slot d c.args.index (length c.args.slots.now.items + 1)) (create_for d c.args.index)) (sym c.push_reserved.ensures.items)
    (shows_more rows c.args.slots.now.items session d c.args.index h firm)

pub returns-clause-number : goal.returns-clause-number
returns-clause-number c = λ d rows session create h. number_more rows c.args.slots.now.items session d create h

pub returns-clause-users : goal.returns-clause-users
returns-clause-users c = λ rows h l. subst (λ (xs : List Slot). HaveRows rows xs) (sym c.push_reserved.ensures.items)
    (have_more rows c.args.slots.now.items c.args.index h l)

pub returns-clause-positive : goal.returns-clause-positive
returns-clause-positive c = λ p used. subst (λ (xs : List Slot). AreUsed xs) (sym c.push_reserved.ensures.items)
    (used_more c.args.slots.now.items (record { user = c.args.index; retried = 0; full = false }) p used)
