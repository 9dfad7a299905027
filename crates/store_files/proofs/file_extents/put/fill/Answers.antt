use Rattle.std.proofs.Common.{Some}
use Rattle.std.specs.Prelude.{vec_items}
use Rattle.std.specs.Ordering.{nat_cmp}
use Rattle.std.specs.BTreeMap.{get}
use Rattle.store_files.proofs.file_extents.Shown.{shows-fill}
use Rattle.store_files.proofs.file_extents.Updated.{puts_of}
use Rattle.store_files.proofs.file_extents.put.fill.Goals as goal

pub returns-in-Ok-Some-clause-shown : goal.returns-in-Ok-Some-clause-shown
returns-in-Ok-Some-clause-shown c b some there clear covered behind s =
    shows-fill vec_items (λ k. get nat_cmp c.args.pieces.now k) (λ k. get nat_cmp c.insert.new.self k) c.args.place c.args.bytes b
    (puts_of vec_items c.args.pieces.now c.insert.new.self c.args.place (Some c.args.bytes) c.in-Ok-Some.ensures.updates)
    some covered clear behind s
