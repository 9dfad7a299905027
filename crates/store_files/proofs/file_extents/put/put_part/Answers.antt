use Rattle.std.proofs.Common.{◌-◌, take, drop, arith, sym, subst}
use Rattle.std.specs.Prelude.{vec_items}
use Rattle.std.specs.Ordering.{nat_cmp}
use Rattle.std.specs.BTreeMap.{get}
use Rattle.std.proofs.lemmas.List.{places}
use Rattle.store_files.specs.file_extents.Shown.{Shows}
use Rattle.store_files.proofs.file_extents.Planned.{written-none}
use Rattle.store_files.proofs.file_extents.put.put_part.Goals as goal

pub returns-in-None-clause-shown : goal.returns-in-None-clause-shown
returns-in-None-clause-shown c at x y b p l e s =
    subst (λ v. Shows vec_items (λ k. get nat_cmp c.args.pieces.now k) v)
    (sym (written-none x (take (y - x) (drop (x - at) c.args.bytes.now)) b (grind (arith, places)))) s
