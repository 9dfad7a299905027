use Rattle.std.proofs.Common.{◌≡◌, ◌≤◌, ◌<◌, length, get_or, arith, ◌∙◌}
use Rattle.std.proofs.lemmas.Grind.{common_steps}
use Rattle.std.proofs.lemmas.Bool.Decides.{nat_tests}
use Rattle.access_lists.specs.Index.{is_reached}
use Rattle.access_lists.specs.Walk.{no_rule}
use Rattle.access_lists.proofs.Places.{one_more, none_left}
use Rattle.access_lists.proofs.rules.reached.Goals as goal

pub loop-i-preserved : goal.loop-i-preserved
loop-i-preserved c =
    let v = c.loop-i.invariant in
    let inside : c.loop-i.i < length c.args.rules.now = (let t = c.loop-i-test.true in grind (arith, nat_tests)) in
    let is : c.is_reached-is_there.result ≡ is_reached (get_or c.args.rules.now c.loop-i.i no_rule).path c.args.place =
    (let a = c.is_reached-is_there.ensures in let b = c.as_bytes.ensures in let d = c.index-rules-i.is in grind (arith, common_steps)) in (
      omega (arith, inside),
      one_more c.args.place c.loop-i.i c.args.rules.now c.loop-i.numbers c.add_if.new.numbers
          c.is_reached-is_there.result inside is c.in_ok-add_if.ensures.there c.in_ok-add_if.ensures.not ∙ v.1,
    )

pub returns : goal.returns
returns c =
    let v = c.loop-i.invariant in
    let ended : length c.args.rules.now ≤ c.loop-i.i = (let t = c.loop-i-test.false in grind (arith, nat_tests)) in
    none_left c.args.place c.loop-i.i c.args.rules.now c.loop-i.numbers ended ∙ v.1
