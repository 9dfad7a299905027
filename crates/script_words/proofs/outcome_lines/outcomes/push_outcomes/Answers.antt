use Rattle.std.proofs.Common.{◌≤◌, length, arith}
use Rattle.std.specs.String.{string_bytes}
use Rattle.script_words.proofs.outcome_lines.LineLemmas.{one_more, no_more}
use Rattle.script_words.proofs.outcome_lines.outcomes.push_outcomes.Goals as goal

pub loop-place-preserved : goal.loop-place-preserved
loop-place-preserved c =
    one_more (string_bytes c.loop-place.out) (string_bytes c.push_outcome.new.out) c.loop-place.place c.args.settled.now
    c.outcome_at-outcome.result.now _ c.outcome_at-outcome.ensures c.in_ok-push_outcome.ensures c.loop-place.invariant

pub returns : goal.returns
returns c =
    let past : length c.args.settled.now ≤ c.loop-place.place = (let t = c.loop-place-test.false in omega arith) in
    no_more (string_bytes c.loop-place.out) c.loop-place.place c.args.settled.now _ past c.loop-place.invariant
