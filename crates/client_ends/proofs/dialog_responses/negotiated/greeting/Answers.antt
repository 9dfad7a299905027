use Rattle.client_ends.specs.ends.Shown.{settings_of}
use Rattle.client_ends.proofs.dialog_responses.Greetings.{unreadable}
use Rattle.client_ends.proofs.dialog_responses.negotiated.greeting.Goals as goal

pub returns-in-Some : goal.returns-in-Some
returns-in-Some c = c.greeting_of.ensures c.args.m.now c.in-Some.ensures.0 c.in-Some.ensures.1

pub returns-in-None : goal.returns-in-None
returns-in-None c = unreadable (settings_of c.args.config.now) c.args.m.now c.in-None.ensures
