use Rattle.std.proofs.Common.{◌≡◌, length, arith, sym, ◌∙◌}
use Rattle.std.proofs.lemmas.Bool.Decides.{nat_tests}
use Rattle.store_files.proofs.file_tree.Long.{upper_end}
use Rattle.store_files.proofs.file_tree.find.is_upper_of.Goals as goal

pub returns : goal.returns
returns c =
    let v = c.loop-i.invariant in
    let e : c.loop-i.i ≡ length c.args.key.now = (let t = c.loop-i-test.false in grind (arith, nat_tests)) in
    sym (v.2 ∙ upper_end c.args.path.now c.args.key.now c.loop-i.i e v.0)
