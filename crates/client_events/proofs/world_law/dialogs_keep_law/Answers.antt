use Rattle.client_events.proofs.world_law.Columns.{begun, gone_on, left, taken}
use Rattle.client_events.proofs.world_law.dialogs_keep_law.Goals as goal

pub returns : goal.returns
returns c = record { begins = begun; goes_on = gone_on; accepts = taken; leaves = left }
