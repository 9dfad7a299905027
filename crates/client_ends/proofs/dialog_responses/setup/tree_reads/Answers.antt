use Rattle.std.proofs.Common.{sym}
use Rattle.spec_wire.specs.messages.TreeConnect.{tree_connect_response_fault}
use Rattle.client_ends.proofs.dialog_responses.Greetings.{no_fault, some_fault}
use Rattle.client_ends.proofs.dialog_responses.setup.tree_reads.Goals as goal

pub returns-in-Ok : goal.returns-in-Ok
returns-in-Ok c = sym (no_fault (tree_connect_response_fault c.args.m.now) c.in-Ok.ensures.0)

pub returns-in-Err : goal.returns-in-Err
returns-in-Err c = sym (some_fault (tree_connect_response_fault c.args.m.now) _ c.in-Err.ensures)
