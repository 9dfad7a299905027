use Rattle.server_core.proofs.durable_state.Shown.{marked_shown}
use Rattle.server_core.proofs.durable_state.durable.Durable.mark.Goals as goal

pub returns : goal.returns
returns c = λ s h. marked_shown c.args.self.now c.note.new.self c.mark.new.self s c.args.file c.args.marked c.note.ensures.rest
    c.in_ok-note.ensures.before c.in_ok-note.ensures.noted (c.mark.ensures.shown s) h
