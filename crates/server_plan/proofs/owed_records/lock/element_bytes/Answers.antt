use Rattle.server_plan.proofs.owed_records.Told.{if_ok_by, read_again}
use Rattle.server_plan.proofs.owed_records.lock.element_bytes.Goals as goal

pub returns : goal.returns
returns c =
    if_ok_by c.elements_bytes.result c.elements_bytes.ensures (λ b e. read_again c.args.elements.now b c.read_elements.ensures e)
