use Rattle.server_effects.proofs.session_ends.Pieces.{dropped_tables}
use Rattle.server_effects.proofs.session_ends.leaving.leave.Goals as goal

pub returns-clause-shows : goal.returns-clause-shows
returns-clause-shows c = λ s f h st. dropped_tables c.args.t.now c.leave.new.self s c.args.id h (c.leave.ensures.shows s f h.opens st)
