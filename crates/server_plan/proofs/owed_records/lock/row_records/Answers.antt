use Rattle.wire_commands.specs.values.Meaning.{command_of, message_of}
use Rattle.store_opens.specs.open_table.Rows.{open_of}
use Rattle.server_checks.specs.verdicts.Views.{elements_in}
use Rattle.server_plan.proofs.owed_records.Told.{if_ok_by, not_recorded, recorded}
use Rattle.server_plan.proofs.owed_records.lock.row_records.Goals as goal

pub returns-then-not-row : goal.returns-then-not-row
returns-then-not-row c = λ s e.
    not_recorded s (message_of c.args.m.now) c.args.id c.args.index c.args.number c.args.status
    (elements_in (command_of c.args.m.now.command)) (open_of c.args.row.now) _ e c.if-not-row.true c.no_record.ensures

pub returns : goal.returns
returns c = λ s e.
    if_ok_by c.one_record.result c.one_record.ensures
    (λ rs all. recorded s (message_of c.args.m.now) c.args.id c.args.index c.args.number c.args.status
    (elements_in (command_of c.args.m.now.command)) (open_of c.args.row.now) _ _ e c.if-not-row.false all c.in_ok-one.ensures)
