use Rattle.std.proofs.Common.{◌≤◌, ◌<◌, length, arith, sym, ◌∙◌}
use Rattle.std.proofs.lemmas.Bool.Decides.{nat_tests}
use Rattle.access_lists.proofs.Walking.{rule_at, walk_none, walk_some, walk_end}
use Rattle.access_lists.proofs.deciding.walked.Goals as goal

pub returns-in-None : goal.returns-in-None
returns-in-None c =
    let inside : c.loop-i.i < length c.args.numbers.now = (let t = c.loop-i-test.true in grind (arith, nat_tests)) in
    let rule = rule_at c.args.rules.now c.args.numbers.now c.args.user.now c.args.path.now c.loop-i.asked c.loop-i.i
    c.index-rules-number.result c.requires.numbers inside c.index-rules-number.is in
    sym (walk_none c.args.rules.now c.args.numbers.now c.args.user.now c.args.path.now c.loop-i.asked c.loop-i.i inside
    (rule ∙ sym c.judge.ensures ∙ c.in-None.is)) ∙ c.loop-i.invariant

pub loop-i-preserved : goal.loop-i-preserved
loop-i-preserved c =
    let inside : c.loop-i.i < length c.args.numbers.now = (let t = c.loop-i-test.true in grind (arith, nat_tests)) in
    let rule = rule_at c.args.rules.now c.args.numbers.now c.args.user.now c.args.path.now c.loop-i.asked c.loop-i.i
    c.index-rules-number.result c.requires.numbers inside c.index-rules-number.is in
    sym (walk_some c.args.rules.now c.args.numbers.now c.args.user.now c.args.path.now c.loop-i.asked c.loop-i.i c.in-Some.left inside
    (rule ∙ sym c.judge.ensures ∙ c.in-Some.is)) ∙ c.loop-i.invariant

pub returns : goal.returns
returns c =
    let ended : length c.args.numbers.now ≤ c.loop-i.i = (let t = c.loop-i-test.false in grind (arith, nat_tests)) in
    sym (walk_end c.args.rules.now c.args.numbers.now c.args.user.now c.args.path.now c.loop-i.asked c.loop-i.i ended) ∙ c.loop-i.invariant
