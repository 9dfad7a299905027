use Rattle.std.proofs.Common.{subst, sym, Bool}
use Rattle.run_command.specs.Listing.{AddsReceipt}
use Rattle.run_command.proofs.Listed.{none_added, one_added}
use Rattle.run_command.proofs.listing.add_order.Goals as goal

pub returns-then-not-ordered : goal.returns-then-not-ordered
returns-then-not-ordered c =
    subst (λ (b : Bool). AddsReceipt b c.args.lists.now c.args.place c.args.orders.now.items c.args.orders.now.items)
    (sym c.if-not-ordered.true)
    (none_added c.args.lists.now c.args.place c.args.orders.now.items)

pub returns : goal.returns
returns c =
    subst (λ (b : Bool). AddsReceipt b c.args.lists.now c.args.place c.args.orders.now.items c.push.new.self.items)
    (sym c.if-not-ordered.false)
    (one_added c.args.lists.now c.args.place c.in_ok-create.create c.list_at.result.now c.in_ok-numbers.numbers c.args.orders.now.items
    c.push.new.self.items c.in_ok-create.ensures c.list_at.ensures c.in_ok-numbers.ensures c.in_ok-push.ensures.items)
