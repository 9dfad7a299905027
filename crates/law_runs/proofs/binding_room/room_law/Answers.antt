use Rattle.law_nonces.proofs.server_nonces.Runs.{kept}
use Rattle.law_runs.proofs.binding_room.Runs.{have_room}
use Rattle.law_runs.proofs.binding_room.room_law.Goals as goal

pub returns : goal.returns
returns c = record {
  room = have_room kept c.nothing_is_refused_law.ensures c.wire_facts_law.ensures.lawful c.runs_law.ensures.runs;
}
