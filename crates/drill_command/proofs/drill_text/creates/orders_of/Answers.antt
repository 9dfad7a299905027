use Rattle.std.proofs.Common.{◌+◌, ◌≤◌, length, refl, ap, ◌∙◌, arith}
use Rattle.drill_command.specs.drill_text.Text.{orders_to}
use Rattle.drill_command.proofs.drill_text.Added.{all_told, first, more_told, next}
use Rattle.drill_command.proofs.drill_text.creates.orders_of.Goals as goal

pub loop-place-init : goal.loop-place-init
loop-place-init c = record {
  within = omega arith;
  told = λ w h are. c.new-orders.ensures.items ∙ first w;
}

pub loop-place-preserved : goal.loop-place-preserved
loop-place-preserved c =
    let n = c.loop-place.place in
    let t = c.loop-place-test.true in
    record {
      within = omega arith;
      told = λ w h are.
          more_told w c.args.ops.now c.args.settled.now c.args.told.now c.loop-place.orders.items c.add_order.new.orders.items n
          c.is_ordered-ordered.result c.is_ordered-ordered.ensures t h are c.in_ok-add_order.ensures (c.loop-place.invariant.told w h are)
          ∙ ap (λ k. orders_to w k) (next n (n + 1) refl);
    }

pub returns : goal.returns
returns c = λ w h are.
    let over : length c.args.ops.now ≤ c.loop-place.place = (let t = c.loop-place-test.false in omega arith) in
    all_told w c.args.ops.now c.args.settled.now c.loop-place.orders.items c.loop-place.place h c.loop-place.invariant.within over
    (c.loop-place.invariant.told w h are)
