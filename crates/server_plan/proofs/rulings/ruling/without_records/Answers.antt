use Rattle.std.proofs.Common.{ap, sym, ◌∙◌}
use Rattle.spec_exchange.specs.Step.{ruling_without_room}
use Rattle.server_checks.specs.event_heard.Heard.{event_of}
use Rattle.server_plan.specs.rulings.Rulings.{ruling_of}
use Rattle.server_plan.specs.declared.rulings.ruling.Ruling.{Ruling}
use Rattle.server_plan.proofs.rulings.ruling.without_records.Goals as goal

pub returns-in-Says : goal.returns-in-Says
returns-in-Says c = c.verdict_without_records.ensures
    ∙ ap (λ (r : Ruling). ruling_without_room (ruling_of (event_of c.args.asked.now) r)) (sym c.in-Says.is)

pub returns-in-TakesIn : goal.returns-in-TakesIn
returns-in-TakesIn c = ap (λ (r : Ruling). ruling_without_room (ruling_of (event_of c.args.asked.now) r)) (sym c.in-TakesIn.is)

pub returns-in-TurnsAway : goal.returns-in-TurnsAway
returns-in-TurnsAway c = ap (λ (r : Ruling). ruling_without_room (ruling_of (event_of c.args.asked.now) r)) (sym c.in-TurnsAway.is)

pub returns-in-TakesOut : goal.returns-in-TakesOut
returns-in-TakesOut c = ap (λ (r : Ruling). ruling_without_room (ruling_of (event_of c.args.asked.now) r)) (sym c.in-TakesOut.is)

pub returns-in-TakesAllOut : goal.returns-in-TakesAllOut
returns-in-TakesAllOut c = ap (λ (r : Ruling). ruling_without_room (ruling_of (event_of c.args.asked.now) r)) (sym c.in-TakesAllOut.is)
