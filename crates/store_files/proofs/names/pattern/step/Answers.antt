use Rattle.store_files.proofs.names.Patterns.{walk_ends, walk_goes_back}
use Rattle.store_files.proofs.names.pattern.step.Goals as goal

pub returns-then-ends-clause-none : goal.returns-then-ends-clause-none
returns-then-ends-clause-none c =
    let w = c.args.walk in
    walk_ends c.args.pattern.now c.args.name.now w.i w.j w.behind w.from c.requires.stands c.in_default.ensures.none c.if-ends.true

pub returns-clause-some : goal.returns-clause-some
returns-clause-some c =
    let w = c.args.walk in
    walk_goes_back c.args.pattern.now c.args.name.now w.i w.j w.behind w.from c.requires.stands c.in_default.ensures.none c.if-ends.false
