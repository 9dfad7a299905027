use Rattle.std.proofs.Common.{◌-◌, take, Some, arith, sym, ap, ◌∙◌}
use Rattle.std.specs.Prelude.{vec_items}
use Rattle.std.specs.Ordering.{nat_cmp}
use Rattle.std.specs.BTreeMap.{get}
use Rattle.store_files.proofs.file_extents.Shown.{shows-trim}
use Rattle.store_files.proofs.file_extents.Updated.{puts_of}
use Rattle.store_files.proofs.file_extents.cut.trim_at.Goals as goal

pub returns-in-Some : goal.returns-in-Some
returns-in-Some c b e s =
    let new = c.cut_piece.new.piece in
    let v = c.in-Some.ensures.value in
    let r = c.requires in
    shows-trim vec_items (λ k. get nat_cmp c.args.pieces.now k) (λ k. get nat_cmp (c.get_mut.follows.lender new) k)
    c.args.place c.in-Some.piece.now new b
    (puts_of vec_items c.args.pieces.now (c.get_mut.follows.lender new) c.args.place (Some new) ((c.get_mut.follows.holds new).3 r.1))
    (sym v) (c.cut_piece.ensures ∙ ap (λ x. take (x - c.args.place) c.in-Some.piece.now.items) (sym e)) (omega arith) r.2 s
