use Rattle.std.proofs.Common.{◌≤◌, length, arith}
use Rattle.drill_command.proofs.Summed.{count_all, count_more}
use Rattle.drill_command.proofs.summing.count_of.Goals as goal

pub loop-place-preserved : goal.loop-place-preserved
loop-place-preserved c =
    let v = c.loop-place.invariant in
    record {
      few = (let a = v.few in let b = c.one_of-count.ensures.bound in omega arith);
      counted = count_more c.args.kind c.args.settled.now c.loop-place.place c.outcome_at-outcome.result.now
          c.loop-place.count c.one_of-count.result _
          c.outcome_at-outcome.ensures c.one_of-count.ensures.value v.counted;
    }

pub returns : goal.returns
returns c =
    let past : length c.args.settled.now ≤ c.loop-place.place = (let t = c.loop-place-test.false in omega arith) in
    count_all c.args.kind c.args.settled.now c.loop-place.place c.loop-place.count _ past c.loop-place.invariant.counted
