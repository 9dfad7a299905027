use Rattle.std.specs.String.{string_bytes}
use Rattle.drill_command.proofs.Written.{unflushed}
use Rattle.drill_command.proofs.writing.flush_piece.Goals as goal

pub returns-clause-written : goal.returns-clause-written
returns-clause-written g c = unflushed _ (string_bytes c.args.text.now)
