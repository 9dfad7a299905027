use Rattle.std.proofs.Common.{Bool, List, sym, subst}
use Rattle.world_ends.specs.declared.sides.Up.{Up}
use Rattle.world_steps.specs.opening.Opening.{IsOpeningSaid, SaysFirst}
use Rattle.world_steps.proofs.opening.entering.first_up.Goals as goal

pub returns-then-not-served : goal.returns-then-not-served
returns-then-not-served c =
    subst (λ (b : Bool). SaysFirst b c.args.greeting c.new-up.result.items) (sym c.if-not-served.true) c.new-up.ensures.items

pub returns-in-Ok : goal.returns-in-Ok
returns-in-Ok c =
    subst (λ (b : Bool). SaysFirst b c.args.greeting c.say_up.new.up.items) (sym c.if-not-served.false)
    (subst (λ (us : List Up). IsOpeningSaid us 0 c.args.greeting c.say_up.new.up.items) c.new-up.ensures.items c.in-Ok.ensures)
