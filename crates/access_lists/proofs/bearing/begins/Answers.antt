use Rattle.std.proofs.Common.{◌≡◌, ◌==◌, ◌≤◌, ◌<◌, true, false, length, get_or, arith, sym, ◌∙◌}
use Rattle.std.proofs.lemmas.Bool.Decides.{nat_tests}
use Rattle.spec_exchange.specs.Texts.{upper}
use Rattle.access_lists.proofs.Comparing.{begins_alike, begins_differs, begins_end}
use Rattle.access_lists.proofs.bearing.begins.Goals as goal

pub returns-then-upper : goal.returns-then-upper
returns-then-upper c =
    let v = c.loop-i.invariant in
    let inside : c.loop-i.i < length c.args.front.now = (let t = c.loop-i-test.true in grind (arith, nat_tests)) in
    let differs : (upper (get_or c.args.front.now c.loop-i.i 0) == upper (get_or c.args.text.now c.loop-i.i 0)) ≡ false =
    (let t = c.if-upper.true in let a = c.upper.ensures in let b = c.upper-in-loop-i.ensures in grind (arith, nat_tests)) in
    sym (v.1 ∙ begins_differs c.args.front.now c.args.text.now c.loop-i.i inside (let r = c.requires in omega (arith, inside, r)) differs)

pub loop-i-preserved : goal.loop-i-preserved
loop-i-preserved c =
    let v = c.loop-i.invariant in
    let inside : c.loop-i.i < length c.args.front.now = (let t = c.loop-i-test.true in grind (arith, nat_tests)) in
    let alike : (upper (get_or c.args.front.now c.loop-i.i 0) == upper (get_or c.args.text.now c.loop-i.i 0)) ≡ true =
    (let t = c.if-upper.false in let a = c.upper.ensures in let b = c.upper-in-loop-i.ensures in grind (arith, nat_tests)) in (
      omega (arith, inside),
      v.1 ∙ begins_alike c.args.front.now c.args.text.now c.loop-i.i inside
          (let r = c.requires in omega (arith, inside, r)) alike,
    )

pub returns : goal.returns
returns c =
    let v = c.loop-i.invariant in
    let ended : length c.args.front.now ≤ c.loop-i.i = (let t = c.loop-i-test.false in grind (arith, nat_tests)) in
    sym (v.1 ∙ begins_end c.args.front.now c.args.text.now c.loop-i.i ended)
