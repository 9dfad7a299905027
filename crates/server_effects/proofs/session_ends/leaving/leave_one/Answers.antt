use Rattle.server_effects.proofs.session_ends.Pieces.{loudly, of_two, quietly}
use Rattle.server_effects.proofs.session_ends.leaving.leave_one.Goals as goal

pub returns-then-is_quiet-clause-shows : goal.returns-then-is_quiet-clause-shows
returns-then-is_quiet-clause-shows c = λ s f h st. quietly c.leave.new.t s c.args.id c.args.is_quiet c.if-is_quiet.true
    (c.leave.ensures.shows s f h st)

pub returns-then-is_quiet-clause-kept : goal.returns-then-is_quiet-clause-kept
returns-then-is_quiet-clause-kept c = of_two c.args.t.now c.leave.new.t _ c.args.t.now.tree c.leave.ensures.kept

pub returns-clause-shows : goal.returns-clause-shows
returns-clause-shows c = λ s f h st. loudly c.leave_open.new.t s c.args.id c.args.is_quiet c.if-is_quiet.false
    (c.leave_open.ensures.shows s f h st)
