use Rattle.std.proofs.Common.{◌≤◌, ◌+◌, length, Some, sym, subst}
use Rattle.std.specs.Prelude.{vec_items, IfSome}
use Rattle.std.specs.Ordering.{nat_cmp}
use Rattle.std.specs.BTreeMap.{get}
use Rattle.store_files.proofs.file_extents.Shown.{shows-put}
use Rattle.store_files.proofs.file_extents.Updated.{puts_of}
use Rattle.store_files.proofs.file_extents.put.put_inside.Goals as goal

pub returns-in-Some-clause-shown : goal.returns-in-Some-clause-shown
returns-in-Some-clause-shown c b some there inside s =
    let new = c.overwrite.new.bytes in
    let v = c.in-Some.ensures.value in
    let fits = subst (λ o. IfSome o (λ p. c.args.offset + length c.args.bytes.now ≤ length p.items)) (sym v) inside in
    shows-put vec_items (λ k. get nat_cmp c.args.pieces.now k) (λ k. get nat_cmp (c.get_mut.follows.lender new) k)
    c.args.place c.args.offset
    c.in-Some.piece.now new c.args.bytes.now b
    (puts_of vec_items c.args.pieces.now (c.get_mut.follows.lender new) c.args.place (Some new) ((c.get_mut.follows.holds new).3 there))
    (sym v) (c.overwrite.ensures fits) fits some s
