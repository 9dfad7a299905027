use Rattle.serve_turns.proofs.connection_turns.Calls.{refused}
use Rattle.serve_turns.proofs.connection_turns.frames.next_frame.Goals as goal

pub returns-in-Err : goal.returns-in-Err
returns-in-Err c = refused _ _ c.in-Err.refusal c.from.result c.in-Err.ensures c.from.ensures
