use Rattle.std.proofs.Common.{None, arith}
use Rattle.std.specs.Prelude.{vec_items}
use Rattle.std.specs.Ordering.{nat_cmp}
use Rattle.std.specs.BTreeMap.{get}
use Rattle.store_files.proofs.file_extents.Shown.{reaches-remove}
use Rattle.store_files.proofs.file_extents.Updated.{puts_of}
use Rattle.store_files.proofs.file_extents.cut.remove_past.Goals as goal

pub returns-clause-kept : goal.returns-clause-kept
returns-clause-kept c b e s = reaches-remove vec_items (λ k. get nat_cmp c.args.pieces.now k) (λ k. get nat_cmp c.remove-piece.new.self k)
    c.args.place b (puts_of vec_items c.args.pieces.now c.remove-piece.new.self c.args.place None c.remove-piece.ensures.updates)
    (let r = c.requires in omega arith) s
