use Rattle.wire_commands.proofs.writing.Joined.{joined_again}
use Rattle.wire_commands.proofs.writing.joining.joined_law.Goals as goal

pub returns : goal.returns
returns c = λ m ms is. joined_again c.header_law.ensures.again c.header_law.ensures.length m ms is
