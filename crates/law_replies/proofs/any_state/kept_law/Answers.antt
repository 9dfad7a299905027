use Rattle.law_replies.proofs.any_state.Kept.{rows_kept, rows_kept_alone, rows_kept_behind}
use Rattle.law_replies.proofs.any_state.kept_law.Goals as goal

pub returns : goal.returns
returns c = record { stepped = rows_kept; alone = rows_kept_alone; behind = rows_kept_behind }
