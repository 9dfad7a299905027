use Rattle.server_plan.proofs.owed_records.Told.{more_elements, all_elements}
use Rattle.server_plan.proofs.owed_records.lock.read_elements.Goals as goal

pub loop-element-init : goal.loop-element-init
loop-element-init c = λ are. are

pub loop-element-preserved : goal.loop-element-preserved
loop-element-preserved c =
    let e = c.read_element.ensures in
    more_elements c.args.elements.now c.loop-element.element-index _ c.loop-element-test.true c.loop-element.invariant
    (record { at = e.0; size = e.1; flags = e.2 })

pub returns : goal.returns
returns c = all_elements c.args.elements.now c.loop-element.element-index c.loop-element-test.false c.loop-element.invariant
