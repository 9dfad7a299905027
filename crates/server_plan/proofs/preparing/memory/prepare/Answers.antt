use Rattle.std.proofs.Common.{ap, sym}
use Rattle.server_checks.specs.event_heard.Heard.{event_of}
use Rattle.server_plan.proofs.preparing.Kept.{tables_stay}
use Rattle.server_plan.proofs.preparing.Unsaid.{true_not}
use Rattle.server_plan.specs.rulings.Rulings.{ruling_of}
use Rattle.server_plan.proofs.preparing.memory.prepare.Goals as goal

pub returns-in-Says-clause-shown : goal.returns-in-Says-clause-shown
returns-in-Says-clause-shown c = rw c.in-Says.is c.prepare_verdict.ensures.shown

pub returns-in-TakesIn-clause-shown : goal.returns-in-TakesIn-clause-shown
returns-in-TakesIn-clause-shown c = rw c.in-TakesIn.is
    (λ s f h a b w. c.prepare_connection.ensures.shown s c.args.now (event_of c.args.asked.now) h)

pub returns-in-TakesIn-clause-room : goal.returns-in-TakesIn-clause-room
returns-in-TakesIn-clause-room c = c.prepare_connection.ensures.room c.args.asked.now

pub returns-in-TakesIn-clause-step : goal.returns-in-TakesIn-clause-step
returns-in-TakesIn-clause-step c = λ L k. c.prepare_connection.ensures.step L c.args.asked.now c.args.now

pub returns-in-Says-clause-sure : goal.returns-in-Says-clause-sure
returns-in-Says-clause-sure c = rw c.in-Says.is c.prepare_verdict.ensures.sure

pub returns-in-TakesIn-clause-sure : goal.returns-in-TakesIn-clause-sure
returns-in-TakesIn-clause-sure c = rw c.in-TakesIn.is (λ n. absurd (true_not n))

pub returns-in-TurnsAway-clause-shown : goal.returns-in-TurnsAway-clause-shown
returns-in-TurnsAway-clause-shown c = λ s f h a b w. (h, ap (ruling_of (event_of c.args.asked.now)) (sym c.in-TurnsAway.is))

pub returns-in-TurnsAway-clause-kept : goal.returns-in-TurnsAway-clause-kept
returns-in-TurnsAway-clause-kept c = tables_stay c.args.t.now

pub returns-in-TakesOut-clause-shown : goal.returns-in-TakesOut-clause-shown
returns-in-TakesOut-clause-shown c = λ s f h a b w. (h, ap (ruling_of (event_of c.args.asked.now)) (sym c.in-TakesOut.is))

pub returns-in-TakesOut-clause-kept : goal.returns-in-TakesOut-clause-kept
returns-in-TakesOut-clause-kept c = tables_stay c.args.t.now

pub returns-in-TakesAllOut-clause-shown : goal.returns-in-TakesAllOut-clause-shown
returns-in-TakesAllOut-clause-shown c = λ s f h a b w. (h, ap (ruling_of (event_of c.args.asked.now)) (sym c.in-TakesAllOut.is))

pub returns-in-TakesAllOut-clause-kept : goal.returns-in-TakesAllOut-clause-kept
returns-in-TakesAllOut-clause-kept c = tables_stay c.args.t.now
