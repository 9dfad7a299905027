-- What is told of an event that the server answered, and of one that it didn't.
use Rattle.std.specs.Prelude.{◌≡◌, ℕ, Option, Some, None, Result, Ok, Err}
use Rattle.server_core.specs.event_replies.Told.{IsBookTold}
use Rattle.server_core.specs.declared.event_replies.progress.Logon.{Logon}
use Rattle.wire_commands.specs.declared.values.command.Command.{Command}
use Rattle.conn_core.specs.declared.served.error.ServeError.{ServeError}
use Rattle.conn_core.specs.declared.served.error.ServeError.TheVariants.{Memory, Stopped, Unanswered}
use Rattle.conn_core.specs.declared.served.serve.Reply.{Reply}
use Rattle.server_effects.specs.declared.answering.Answer.{Answer}

-- the reply, or whether the event acted, whose reply is lost
abbrev pub TellsAnswer : Command → Option Logon → Answer → Result Reply ServeError → Type 0
TellsAnswer c l a (Ok r) = IsBookTold c l a r
TellsAnswer c l a (Err (Unanswered acted)) = acted ≡ a.acted
TellsAnswer c l a (Err Memory) = ⊥
TellsAnswer c l a (Err (Stopped count)) = ⊥

-- why a server that stopped there, or didn't, has no answer
abbrev pub refusal : Option ℕ → ServeError
refusal None = Memory
refusal (Some count) = Stopped count
