use Rattle.store_opens.specs.open_table.Rows.{open_of}
use Rattle.server_effects.proofs.leaving_opens.Files.{on_ok_by, row_there}
use Rattle.server_effects.proofs.leaving_opens.Steps.{left_in}
use Rattle.server_effects.proofs.leaving_opens.records.leave_row.Goals as goal

pub returns : goal.returns
returns c = λ s u o t l st e.
    let row = open_of c.args.row.now in
    let there = row_there c.args.leaving.now s u c.args.id row l st e in
    on_ok_by c.put.result c.put.ensures
    (λ p. left_in c.args.leaving.now c.put.new.self c.in_ok-step.step s u c.args.id c.args.origin row _ _ _ _ e
    (c.in_ok-step.ensures s u o t l there.0 there.1 there.2) p.0 p.1 l st c.in_ok-push_left.ensures c.in_ok-push_parted.ensures c.goes.ensures)
