use Rattle.run_command.proofs.Made.{no_more, ok_with, reached_first, reached_last, reached_next}
use Rattle.run_command.proofs.made_files.bytes_by.Goals as goal

pub loop-number-init : goal.loop-number-init
loop-number-init c =
    reached_first c.args.ops.now c.args.settled.now c.args.numbers.now c.new-content.result c.new-content.ensures.empty

pub loop-number-preserved : goal.loop-number-preserved
loop-number-preserved c =
    reached_next c.args.ops.now c.args.settled.now c.args.numbers.now c.loop-number.left.now c.in-Some.rest.now c.in-Some.number.now
    c.loop-number.content c.go_on.new.content c.in-Some.ensures.cases.0 c.in_ok-go_on.ensures c.loop-number.invariant

pub returns : goal.returns
returns c =
    ok_with c.all_of.result (λ all is.
    reached_last c.args.ops.now c.args.settled.now c.args.numbers.now c.loop-number.left.now c.loop-number.content all
    (no_more c.loop-number.left.now c.in_default.ensures.cases) is c.loop-number.invariant) c.all_of.ensures
