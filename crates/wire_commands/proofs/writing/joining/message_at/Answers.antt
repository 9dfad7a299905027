use Rattle.std.proofs.Common.{[]}
use Rattle.wire_commands.specs.writing.Joining.{message_of}
use Rattle.wire_commands.proofs.values.Places.{front_at}
use Rattle.wire_commands.proofs.writing.joining.message_at.Goals as goal

pub returns : goal.returns
returns c = front_at message_of c.args.messages.now c.args.at (record {
  header = record {
    charge = 0;
    status = 0;
    command = 0;
    credits = 0;
    flags = 0;
    next = 0;
    message = 0;
    tree = 0;
    session = 0;
    signature = [];
  };
  body = record { ref_ptr = (0, 0); now = [] };
}) c.requires
