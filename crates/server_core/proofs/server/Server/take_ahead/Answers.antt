use Rattle.std.proofs.Common.{sym, ap, subst, ◌∙◌}
use Rattle.std.specs.Prelude.{Err}
use Rattle.spec_journal.specs.Forms.{StandsFor}
use Rattle.spec_wire.specs.journal.Moments.{LeavesOnly}
use Rattle.server_checks.specs.declared.setups.error.EventError.{EventError}
use Rattle.server_core.specs.body_writing.Bodies.{event_error_of, stopped_by}
use Rattle.server_core.specs.space_ahead.Space.{TakesSpace}
use Rattle.server_core.specs.declared.journaled_tables.state.ServerState.{ServerState}
use Rattle.server_core.proofs.Filled.{refused}
use Rattle.server_core.proofs.server.Server.take_ahead.Goals as goal

pub returns-in-Ok-clause-ahead : goal.returns-in-Ok-clause-ahead
returns-in-Ok-clause-ahead g c = λ tells base s L records bodies h goes. c.in-Ok.ensures.filled tells bodies goes.1.settled

pub returns-in-Ok-clause-any_moment : goal.returns-in-Ok-clause-any_moment
returns-in-Ok-clause-any_moment g c = λ tells base s L records bodies h goes. c.take_ahead.ensures.settled_moment tells bodies goes.1.settled

pub returns-in-Err-clause-takes : goal.returns-in-Err-clause-takes
returns-in-Err-clause-takes g c = λ base s L records h.
    let D = g.D.Disk in
    let old = c.args.self.now.state in
    let new = c.take_ahead.new.self in
    subst (λ (x : EventError). TakesSpace D.told D.seen D.may_leave D.faults base old c.note.new.state s L records (Err x))
    (sym c.note.ensures.told)
    (subst (λ (t : ServerState _). TakesSpace D.told D.seen D.may_leave D.faults base old t s L records
    (Err (event_error_of c.in-Err.error)))
    (sym (c.note.ensures.noted ∙ ap (λ (x : EventError). record old { journal = new; stopped = stopped_by x old.stopped })
    c.note.ensures.told))
    (refused D.told D.seen D.may_leave D.faults base old new s L records c.in-Err.error c.in_default.is c.in-Err.ensures.cause h))

pub returns-in-Err-clause-any_moment : goal.returns-in-Err-clause-any_moment
returns-in-Err-clause-any_moment g c = λ tells base s L records bodies h goes.
    subst (λ (t : ServerState _). LeavesOnly g.D.Disk.moment g.D.Disk.left_since c.args.self.now.state.journal.disk t.journal.disk
    (λ b. StandsFor b bodies)) (sym c.note.ensures.noted) (c.take_ahead.ensures.settled_moment tells bodies goes.1.settled)
