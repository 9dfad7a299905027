use Rattle.wire_commands.specs.values.Meaning.{create_of, message_of}
use Rattle.server_plan.proofs.reserving.OpenRows.{asked_open}
use Rattle.server_plan.proofs.reserving.rows.parts_for.Goals as goal

pub returns-clause-opened : goal.returns-clause-opened
returns-clause-opened c = λ s user h u. asked_open s (message_of c.args.m.now) (create_of c.args.request.now)
    c.args.found c.args.action user _ _ _ _ _
    (c.file_for-file.ensures s h) (c.granted-access.ensures s h) c.is_persistent-persistent.ensures c.guid_of-guid.ensures
    c.timeout_asked-timeout.ensures u
