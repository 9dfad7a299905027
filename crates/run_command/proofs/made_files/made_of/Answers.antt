use Rattle.std.proofs.Common.{◌≤◌, length, ap, ◌∙◌, arith}
use Rattle.run_command.specs.MadeFiles.{made_files}
use Rattle.run_command.proofs.Listed.{next}
use Rattle.run_command.proofs.Made.{all_files, more_files, no_files}
use Rattle.run_command.proofs.made_files.made_of.Goals as goal

pub loop-place-init : goal.loop-place-init
loop-place-init c = record {
  within = omega arith;
  told = λ order h. c.new-files.ensures.items ∙ no_files c.args.ops.now c.args.settled.now order;
}

pub add_file-requires : goal.add_file-requires
add_file-requires c = (let t = c.loop-place-test.true in let r = c.requires in omega (arith, t, r))

pub loop-place-preserved : goal.loop-place-preserved
loop-place-preserved c =
    let n = c.loop-place.place in
    let t = c.loop-place-test.true in
    record {
      within = omega arith;
      told = λ order h.
          more_files c.args.ops.now c.args.settled.now order c.args.lists.now c.loop-place.files.items c.add_file.new.files.items n
          h (c.in_ok-add_file.ensures) (c.loop-place.invariant.told order h)
          ∙ ap (λ k. made_files c.args.ops.now c.args.settled.now order k) (next n);
    }

pub returns : goal.returns
returns c = λ order h.
    let over : length c.args.ops.now ≤ c.loop-place.place = (let t = c.loop-place-test.false in omega (arith, t)) in
    all_files c.args.ops.now c.args.settled.now order c.loop-place.files.items c.loop-place.place (length c.args.ops.now)
    c.loop-place.invariant.within over (c.loop-place.invariant.told order h)
