use Rattle.drill_command.proofs.drill_text.Added.{ok_with}
use Rattle.drill_command.proofs.drill_text.Ended.{told_orders}
use Rattle.std.proofs.Common.{List, sym, subst}
use Rattle.drill_command.specs.drill_text.Ordered.{IsToldBy}
use Rattle.spec_exchange.specs.Runs.{account}
use Rattle.client_values.specs.declared.operations.values.OpKind.{OpKind}
use Rattle.client_values.specs.declared.outcomes.outcome.Outcome.{Outcome}
use Rattle.world_ends.specs.results.Listing.{AreOrders}
use Rattle.world_ends.specs.declared.results.ordering.Order.{Order}
use Rattle.drill_command.proofs.drill_text.printing.orders_in.Goals as goal

pub returns : goal.returns
returns c =
    let x = c.args.world.now.client in
    ok_with c.orders_of.result (λ v told z w h. told w.values
    (subst (λ (l : List OpKind). IsToldBy w.values l c.as_slice-2.result.now) (sym c.as_slice.ensures.value)
    (subst (λ (l : List Outcome). IsToldBy w.values x.table.ops.items l) (sym c.as_slice-2.ensures.value)
    (told_orders w.values x h.client)))
    (subst (λ (l : List Order). AreOrders w.values.client.taken (account w.values) l) (sym c.as_slice-3.ensures.value)
    (c.in_ok-told.ensures z w h))) c.orders_of.ensures
