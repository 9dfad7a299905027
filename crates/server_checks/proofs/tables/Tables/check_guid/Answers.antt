use Rattle.std.proofs.Common.{sym, ap, ◌∙◌}
use Rattle.wire_commands.specs.values.Meaning.{create_of, durable_of, message_of}
use Rattle.spec_exchange.specs.CheckCreate.{guid_check}
use Rattle.server_checks.proofs.tables.Tables.check_guid.Goals as goal

pub returns-in-Some : goal.returns-in-Some
returns-in-Some c = λ s f t p.
    let e = c.in-Some.ensures s t.opens in
    c.check_live.ensures s f t p (f.guid_open c.args.m.now.client_guid c.args.durable.guid c.in-Some.id (sym e)).0
    ∙ ap (guid_check s (message_of c.args.m.now) (create_of c.args.request.now) (durable_of c.args.durable)) e

pub returns-in-None : goal.returns-in-None
returns-in-None c = λ s f t p. c.check_kept.ensures s f t
    ∙ ap (guid_check s (message_of c.args.m.now) (create_of c.args.request.now) (durable_of c.args.durable))
    (c.in-None.ensures s t.opens)
