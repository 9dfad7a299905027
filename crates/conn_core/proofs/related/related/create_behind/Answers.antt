use Rattle.std.proofs.Common.{Bool, if◌then◌else◌, ap, ◌∙◌, sym, option_map}
use Rattle.spec_world.specs.Related as related
use Rattle.conn_core.specs.related.Carrying.{carry_of}
use Rattle.conn_core.proofs.related.Carried.{before_is, is_create, no_create}
use Rattle.conn_core.proofs.related.related.create_behind.Goals as goal

pub returns-then-checked-eq-CREATE : goal.returns-then-checked-eq-CREATE
returns-then-checked-eq-CREATE c = λ message k x.
    let y = option_map carry_of c.args.before.now in
    sym (ap (λ (b : Bool). if b then c.args.status else related.create_before y k)
    (is_create c.args.checked.now message k x c.if-checked-eq-CREATE.true))

pub returns-else-checked-eq-CREATE : goal.returns-else-checked-eq-CREATE
returns-else-checked-eq-CREATE c = λ message k x.
    let y = option_map carry_of c.args.before.now in
    c.create_before.ensures
    ∙ (before_is c.args.before.now c.args.checked.now message k x
    ∙ sym (ap (λ (b : Bool). if b then c.args.status else related.create_before y k)
    (no_create c.args.checked.now message k x c.if-checked-eq-CREATE.false)))
