use Rattle.std.proofs.Common.{◌<◌, ◌^◌, arith}
use Rattle.spec_exchange.specs.Files.{used}
use Rattle.store_files.proofs.file_tree.Lengths.{sum_fits}
use Rattle.store_files.proofs.file_tree.tree.Tree.used_behind.Goals as goal

pub returns : goal.returns
returns c = λ s h l n.
    let u = c.used.ensures s h in
    let r = c.room-room.ensures s h in
    let small : used s < 2 ^ 64 = (let i = c.used.type_inv in omega arith) in
    let room : s.room < 2 ^ 64 = (let i = c.room-room.type_inv in omega arith) in
    let a = c.saturating_sub-others.ensures in
    let b = c.saturating_add.ensures in
    let f = sum_fits (used s) c.args.length c.args.size s.room small room l n in
    omega arith
