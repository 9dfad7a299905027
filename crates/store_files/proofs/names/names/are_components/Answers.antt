use Rattle.std.proofs.Common.{◌≡◌, length, arith, sym, ◌∙◌}
use Rattle.std.proofs.lemmas.Bool.Decides.{nat_tests}
use Rattle.store_files.proofs.names.Components.{at_end}
use Rattle.store_files.proofs.names.names.are_components.Goals as goal

pub returns : goal.returns
returns c =
    let v = c.loop-i.invariant in
    let e : c.loop-i.i ≡ length c.args.path.now = (let t = c.loop-i-test.false in grind (arith, nat_tests)) in
    c.is_component.ensures ∙ sym (at_end c.loop-i.first c.loop-i.i c.args.path.now v.0 e) ∙ sym v.2
