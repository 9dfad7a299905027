use Rattle.wire_commands.specs.values.Meaning.{create_of, durable_of, message_of}
use Rattle.law_server.proofs.tables.Logic.{not_true, not_false}
use Rattle.server_plan.proofs.owed_records.Told.{not_persistent, an_id, no_id}
use Rattle.server_plan.proofs.owed_records.create.durable_open.Goals as goal

pub returns-then-not-durable : goal.returns-then-not-durable
returns-then-not-durable c = λ s o h room there.
    not_persistent s (message_of c.args.m.now) (create_of c.args.request.now) c.args.access (durable_of c.args.durable)
    (not_true c.args.durable.persistent c.if-not-durable.true)

pub returns-in-Some : goal.returns-in-Some
returns-in-Some c = λ s o h room there.
    c.persistent_open.ensures s h there (not_false c.args.durable.persistent c.if-not-durable.false)
    (an_id _ c.in-Some.id _ room (c.in-Some.ensures.shown s o))

pub returns-in-None : goal.returns-in-None
returns-in-None c = λ s o h room there. absurd (no_id _ _ room (c.in-None.ensures.shown s o))
