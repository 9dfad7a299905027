use Rattle.std.proofs.Common.{◌==◌, ℕ, Vec, Global, Some, is_some, ap, refl}
use Rattle.std.specs.Prelude.{Option, vec_items}
use Rattle.std.specs.Ordering.{nat_cmp}
use Rattle.std.specs.BTreeMap.{get}
use Rattle.store_files.proofs.file_extents.Shown.{shows-mark}
use Rattle.store_files.proofs.file_extents.Updated.{puts_of}
use Rattle.store_files.proofs.file_extents.Planned.{plan-marked, clear-behind}
use Rattle.store_files.proofs.file_extents.write.put_empty.Goals as goal

pub returns-in-Ok-clause-shown : goal.returns-in-Ok-clause-shown
returns-in-Ok-clause-shown c at end b h s =
    let f : ℕ → Option (Vec ℕ Global) = λ k. get nat_cmp c.args.pieces.now k in
    let g : ℕ → Option (Vec ℕ Global) = λ k. get nat_cmp c.insert.new.self k in
    let r = c.requires in
    let m = c.args.plan.from in
    shows-mark vec_items f g m c.args.piece b (puts_of vec_items c.args.pieces.now c.insert.new.self m (Some c.args.piece)
    c.in-Ok.ensures.updates) r.2 r.1
    (λ k p. clear-behind f m r.1 (h.clear r.0) k p (k == m) refl) s

pub returns-in-Ok-clause-ok : goal.returns-in-Ok-clause-ok
returns-in-Ok-clause-ok c at end h =
    let f : ℕ → Option (Vec ℕ Global) = λ k. get nat_cmp c.args.pieces.now k in
    let g : ℕ → Option (Vec ℕ Global) = λ k. get nat_cmp c.insert.new.self k in
    let r = c.requires in
    let u = puts_of vec_items c.args.pieces.now c.insert.new.self c.args.plan.from (Some c.args.piece) c.in-Ok.ensures.updates in
    (plan-marked f g c.args.plan at end c.args.piece r.0 u r.1 r.2 h, λ l. ap (λ v. is_some v) u.there)
