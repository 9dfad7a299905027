use Rattle.std.proofs.Common.{◌≡◌, Option, None, IfOk, option_map, subst, sym}
use Rattle.spec_exchange.specs.Effects.{new_open}
use Rattle.wire_commands.specs.values.Meaning.{create_of, durable_of, message_of}
use Rattle.wire_commands.specs.declared.values.command.Durable.{Durable}
use Rattle.journal_bytes.specs.record_bytes.Meaning.{opened}
use Rattle.server_plan.proofs.owed_records.Told.{no_open}
use Rattle.server_plan.proofs.owed_records.create.new_open.Goals as goal

pub returns-in-Some : goal.returns-in-Some
returns-in-Some c = λ s o h room there.
    subst (λ (d : Option Durable). IfOk c.durable_open.result (λ n. opened n
    ≡ new_open s (message_of c.args.m.now) (create_of c.args.request.now) c.args.access (option_map durable_of d))) (sym c.in-Some.is)
    (c.durable_open.ensures s o h room there)

pub returns-in-None : goal.returns-in-None
returns-in-None c = λ s o h room there.
    subst (λ (d : Option Durable). None ≡ new_open s (message_of c.args.m.now) (create_of c.args.request.now) c.args.access (option_map durable_of d))
    (sym c.in-None.is) (no_open s (message_of c.args.m.now) (create_of c.args.request.now) c.args.access)
