use Rattle.std.proofs.Common.{◌≤◌, ◌+◌, ℕ, Vec, Global, length, arith, sym, subst, refl}
use Rattle.std.specs.Prelude.{Option}
use Rattle.std.specs.Ordering.{nat_cmp}
use Rattle.std.specs.BTreeMap.{get}
use Rattle.store_files.specs.file_extents.Ready.{IsPiecePart, IsClear, BeginsAt}
use Rattle.store_files.proofs.file_extents.Planned.{part-of-left, clear-of-left, part-of-right, begins-of-right, inner-of-right}
use Rattle.store_files.proofs.file_extents.write.plan_of.Goals as goal

pub returns-clause-planned : goal.returns-clause-planned
returns-clause-planned c b s =
    let f : ℕ → Option (Vec ℕ Global) = λ k. get nat_cmp c.args.pieces.now k in
    let left = c.left_part-left.ensures.left b s in
    let right = c.right_part-right.ensures.right b s in
    let l = c.left_part-left.result in
    let r = c.right_part-right.result in
    let x = sym c.left_end-from.ensures.is in
    let y = sym c.right_begin-until.ensures.is in
    let v = c.left_end-from.ensures.order in
    let w = c.right_begin-until.ensures.order in
    record {
      order = (v.0, w.0, w.1, refl);
      left = subst (λ v. IsPiecePart f l c.args.at c.args.at v) x (part-of-left f l c.args.at c.args.end left);
      clear = λ m. subst (λ v. IsClear f v) x (clear-of-left f l c.args.at c.args.end left
          (let z = c.left_end-from.ensures.is in omega arith));
      inner = λ q o e m n. subst (λ v. q + length o.items ≤ v) y
          (inner-of-right f r c.args.at c.left_end-from.result c.args.end right q o e m
          (let z = c.right_begin-until.ensures.is in omega arith));
      right = subst (λ v. IsPiecePart f r c.args.at v c.args.end) y (part-of-right f r c.args.at c.left_end-from.result c.args.end right);
      begins = subst (λ v. BeginsAt r v) y (begins-of-right f r c.args.end);
    }
