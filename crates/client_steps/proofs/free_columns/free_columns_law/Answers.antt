use Rattle.client_steps.proofs.free_columns.Columns.{any_places, begun, gone_on, left, taken}
use Rattle.client_steps.proofs.free_columns.free_columns_law.Goals as goal

pub returns : goal.returns
returns c = record { settled_by = any_places; begins = begun; goes_on = gone_on; accepts = taken; leaves = left }
