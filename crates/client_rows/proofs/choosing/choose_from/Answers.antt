use Rattle.client_rows.specs.operation_rows.Rows.{costs}
use Rattle.client_rows.specs.Shown.{fills_by, waits_by}
use Rattle.client_rows.proofs.Showing.{alike_shown, behind_is, goes_is, none_is, some_is}
use Rattle.client_rows.proofs.choosing.choose_from.Goals as goal

pub returns-clause-shown : goal.returns-clause-shown
returns-clause-shown c = λ d s.
    alike_shown c.args.rows.now c.find_from.new.rows c.find_from.ensures.alike c.args.holders.now c.args.prices.now
    c.find_from.new.prices c.args.watchers.now c.find_from.new.watchers d s
    (c.find_from.ensures.stands (waits_by d.op) (fills_by d.op) (costs c.args.rows.now) s.stand)

pub returns-clause-none : goal.returns-clause-none
returns-clause-none c = λ d k m slotless s i e.
    none_is c.args.rows.now c.args.holders.now c.args.prices.now c.args.watchers.now d s k c.args.credits c.args.start m
    slotless c.find_from.result i c.requires.above e
    (c.find_from.ensures.chosen (waits_by d.op) (fills_by d.op) (costs c.args.rows.now) s.stand)

pub returns-clause-some : goal.returns-clause-some
returns-clause-some c = λ d k x n slotless s i r.
    some_is c.args.rows.now c.args.holders.now c.args.prices.now c.args.watchers.now d s k c.args.credits c.args.start x n
    slotless c.find_from.result i r c.requires.above
    (c.find_from.ensures.chosen (waits_by d.op) (fills_by d.op) (costs c.args.rows.now) s.stand)

pub returns-clause-goes : goal.returns-clause-goes
returns-clause-goes c = λ d s.
    goes_is c.args.rows.now c.args.holders.now c.args.prices.now c.args.watchers.now d s c.args.credits c.args.start
    c.find_from.result c.requires.above c.find_from.ensures.inside
    (c.find_from.ensures.chosen (waits_by d.op) (fills_by d.op) (costs c.args.rows.now) s.stand)

pub returns-clause-behind : goal.returns-clause-behind
returns-clause-behind c = λ d s.
    behind_is (waits_by d.op) (costs c.args.rows.now) c.args.credits c.args.rows.now c.args.start c.find_from.result
    (c.find_from.ensures.chosen (waits_by d.op) (fills_by d.op) (costs c.args.rows.now) s.stand)
