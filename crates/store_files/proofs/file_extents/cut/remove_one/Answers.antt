use Rattle.std.proofs.Common.{◌-◌, None, arith, refl}
use Rattle.std.specs.Prelude.{vec_items}
use Rattle.std.specs.Ordering.{nat_cmp}
use Rattle.std.specs.BTreeMap.{get}
use Rattle.store_files.proofs.file_extents.Shown.{drop-some}
use Rattle.store_files.proofs.file_extents.Updated.{puts_of}
use Rattle.store_files.proofs.file_extents.cut.remove_one.Goals as goal

pub returns-clause-kept : goal.returns-clause-kept
returns-clause-kept c b d z y s =
    let r = c.requires in
    drop-some vec_items (λ k. get nat_cmp c.args.pieces.now k) (λ k. get nat_cmp c.remove-piece.new.self k) c.args.place c.args.from
    (c.args.end - c.args.from) b d
    (get nat_cmp c.args.pieces.now c.args.place) refl r.2
    (puts_of vec_items c.args.pieces.now c.remove-piece.new.self c.args.place None c.remove-piece.ensures.updates) (omega arith)
    (λ p e. let v = z p e in omega arith) y s
