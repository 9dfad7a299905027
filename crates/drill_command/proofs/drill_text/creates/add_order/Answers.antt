use Rattle.std.proofs.Common.{subst, sym, Bool}
use Rattle.drill_command.specs.drill_text.Ordered.{AddsOrder}
use Rattle.drill_command.proofs.drill_text.Added.{none_added, ok_so, one_added}
use Rattle.drill_command.proofs.drill_text.creates.add_order.Goals as goal

pub returns-then-not-ordered : goal.returns-then-not-ordered
returns-then-not-ordered c =
    subst (λ (b : Bool). AddsOrder b c.args.told.now c.args.orders.now.items c.args.place c.args.orders.now.items)
    (sym c.if-not-ordered.true)
    (none_added c.args.told.now c.args.orders.now.items c.args.place)

pub returns-in-Some : goal.returns-in-Some
returns-in-Some c =
    ok_so c.push_order.result (λ adds. subst
    (λ (b : Bool). AddsOrder b c.args.told.now c.args.orders.now.items c.args.place c.push_order.new.orders.items)
    (sym c.if-not-ordered.false)
    (one_added c.args.told.now c.args.orders.now.items c.push_order.new.orders.items c.in-Some.create c.args.place c.in-Some.ensures adds))
    c.push_order.ensures
