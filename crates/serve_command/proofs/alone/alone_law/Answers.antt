use Rattle.serve_command.proofs.Alones.{alone_frames}
use Rattle.serve_command.proofs.alone.alone_law.Goals as goal

pub returns : goal.returns
returns c = record { alone = alone_frames c.single_events_law.ensures.single }
