use Rattle.std.proofs.Common.{arith, sym, ◌∙◌}
use Rattle.store_files.proofs.names.Patterns.{middle_step, begin_step, middle_end}
use Rattle.store_files.proofs.names.pattern.next_character.Goals as goal

pub returns-then-not-is_middle-clause-is : goal.returns-then-not-is_middle-clause-is
returns-then-not-is_middle-clause-is c = λ f. c.loop-at.invariant.same f ∙ begin_step f c.args.name.now c.loop-at.at
    c.loop-at-test.true (sym c.is_middle.ensures ∙ c.if-not-is_middle.true)

pub loop-at-preserved : goal.loop-at-preserved
loop-at-preserved c = record {
  order = omega arith;
  in_range = omega arith;
  same = λ f. c.loop-at.invariant.same f ∙ middle_step f c.args.name.now c.loop-at.at c.loop-at-test.true
      (sym c.is_middle.ensures ∙ c.if-not-is_middle.false);
}

pub returns-clause-is : goal.returns-clause-is
returns-clause-is c = λ f. c.loop-at.invariant.same f ∙ middle_end f c.args.name.now c.loop-at.at (omega arith)
