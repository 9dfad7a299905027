use Rattle.std.proofs.Common.{sym, ◌∙◌}
use Rattle.server_core.proofs.durable_state.Locking.{wanted, locked, unlocked, lock_refused, unlock_refused}
use Rattle.server_core.proofs.durable_state.durable.Durable.change_ranges.Goals as goal

pub returns-in-Ok : goal.returns-in-Ok
returns-in-Ok c = λ s i h st f e own.
    let w = wanted c.args.id c.args.elements.now c.args.wanted.now f e own in
    locked c.args.self.now c.lock.new.self s c.args.id c.args.elements.now c.args.wanted.now h (sym c.all_lock.ensures
    ∙ c.if-all_lock.true) e
    (c.in-Ok.ensures.shown s i h.opens st w.filled own)

pub returns-in-Err : goal.returns-in-Err
returns-in-Err c = lock_refused c.refused.result c.args.self.now c.lock.new.self c.args.id c.args.elements.now
    c.args.wanted.now c.in-Err.error
    (sym c.all_lock.ensures ∙ c.if-all_lock.true) c.refused.ensures c.in-Err.ensures.shown

pub returns-in-Ok-unlock : goal.returns-in-Ok-unlock
returns-in-Ok-unlock c = λ s i h st f e own.
    let w = wanted c.args.id c.args.elements.now c.args.wanted.now f e own in
    unlocked c.args.self.now c.unlock.new.self s c.args.id c.args.elements.now c.args.wanted.now h
    (sym c.all_lock.ensures ∙ c.if-all_lock.false) e
    (c.in-Ok-unlock.ensures.shown s i h.opens st w.filled own)

pub returns-in-Err-unlock : goal.returns-in-Err-unlock
returns-in-Err-unlock c = unlock_refused c.refused-in-Err-unlock.result c.args.self.now c.unlock.new.self c.args.id
    c.args.elements.now c.args.wanted.now
    c.in-Err-unlock.error (sym c.all_lock.ensures ∙ c.if-all_lock.false) c.refused-in-Err-unlock.ensures c.in-Err-unlock.ensures.shown
