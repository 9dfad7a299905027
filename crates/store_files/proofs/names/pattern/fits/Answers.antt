use Rattle.std.proofs.Common.{◌≡◌, length, arith, sym}
use Rattle.std.proofs.lemmas.Grind.{common_steps}
use Rattle.std.proofs.lemmas.Bool.Decides.{nat_tests}
use Rattle.store_files.proofs.names.Patterns.{starts, both_spent}
use Rattle.store_files.proofs.names.pattern.fits.Goals as goal

pub loop-walk-init : goal.loop-walk-init
loop-walk-init c = starts c.args.pattern.now c.args.name.now

pub returns : goal.returns
returns c =
    let w = c.loop-walk.invariant in
    let t = c.loop-walk-test.false in
    let r = w.in_pattern.0 in
    let s = w.in_name.1 in
    let p : c.loop-walk.walk.i ≡ length c.args.pattern.now = grind (arith, common_steps, nat_tests) in
    let n : c.loop-walk.walk.j ≡ length c.args.name.now = grind (arith, common_steps, nat_tests) in
    sym (both_spent c.args.pattern.now c.args.name.now c.loop-walk.walk.i c.loop-walk.walk.j c.loop-walk.walk.behind c.loop-walk.walk.from w p n)
