use Rattle.std.proofs.Common.{refl}
use Rattle.wire_commands.specs.values.Meaning.{create_of, durable_of, message_of}
use Rattle.server_plan.proofs.owed_records.Told.{persistent}
use Rattle.server_plan.proofs.owed_records.create.persistent_open.Goals as goal

pub returns : goal.returns
returns c = λ s h there e i.
    persistent s (message_of c.args.m.now) (create_of c.args.request.now) (durable_of c.args.durable) _ _ _ _ _ _ _ _ e i
    c.guid_bytes-client.ensures c.guid_bytes-guid.ensures (c.in_ok-user.ensures s h there) refl refl
    c.timeout_of-timeout.ensures
