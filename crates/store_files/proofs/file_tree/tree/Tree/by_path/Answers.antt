use Rattle.std.proofs.Common.{ap, ◌∙◌, ◌++◌, subst, sym, arith}
use Rattle.store_files.specs.file_tree.Placed.{IsPathOrder}
use Rattle.store_files.proofs.file_tree.ByPath.{numbers, numbers_on, numbers_end, by_path_is}
use Rattle.store_files.proofs.file_tree.tree.Tree.by_path.Goals as goal

pub loop-file-init : goal.loop-file-init
loop-file-init c =
    let g = c.into_iter-file-iterator.ensures.into_iter_gives in (
      tt,
      tt,
      ap (λ l. l ++ numbers c.into_iter-file-iterator.result) c.new-order.ensures.items ∙ ap numbers g.0,
    )

pub loop-file-preserved : goal.loop-file-preserved
loop-file-preserved c =
    let v = c.loop-file.invariant in (
      tt,
      tt,
      numbers_on _ c.loop-file.file-iterator c.next.new.self _ c.in-Some.file.now c.loop-file.order.items
          c.push_number.new.order.items v.2 c.in-Some.ensures.steps c.in_ok-push_number.ensures,
    )

pub returns : goal.returns
returns c = λ s h.
    let v = c.loop-file.invariant in
    subst (λ l. IsPathOrder l s) (sym (numbers_end _ c.loop-file.file-iterator c.loop-file.order.items v.2 c.in-None.ensures.steps.0))
    (by_path_is c.args.self.now s h (let u = c.used-used.ensures s h in let i = c.used-used.type_inv in omega arith)
    c.into_iter-file-iterator.ensures.into_iter_gives.5)
