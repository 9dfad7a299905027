use Rattle.std.proofs.Common.{◌∙◌}
use Rattle.wire_commands.specs.values.Meaning.{create_of, message_of}
use Rattle.server_checks.proofs.Creates.{live_by_row}
use Rattle.server_checks.proofs.tables.Tables.check_live.Goals as goal

pub returns-in-Some : goal.returns-in-Some
returns-in-Some c = λ s f t p st. c.live_row.ensures (create_of c.args.request.now)
    ∙ live_by_row s (message_of c.args.m.now) (create_of c.args.request.now) c.args.id c.in-Some.row.now _
    (c.in-Some.ensures s t.opens) (c.user.ensures s t p)

pub returns-in-None : goal.returns-in-None
returns-in-None c = λ s f t p st. absurd (let e = c.in-None.ensures s t.opens in cc)
