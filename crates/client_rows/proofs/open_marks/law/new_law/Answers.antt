use Rattle.client_rows.proofs.open_marks.Whole.{is_new}
use Rattle.client_rows.proofs.open_marks.law.new_law.Goals as goal

pub returns : goal.returns
returns c = is_new
