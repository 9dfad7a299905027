use Rattle.std.proofs.Common.{ap, ◌∙◌}
use Rattle.wire_commands.specs.values.Meaning.{create_of}
use Rattle.spec_exchange.specs.CheckCreate.{after_names}
use Rattle.spec_exchange.specs.Commands.{Create}
use Rattle.server_checks.proofs.tables.Tables.check_names.Goals as goal

pub returns-in-Some : goal.returns-in-Some
returns-in-Some c = λ s t e. c.refused_create.ensures (Create (create_of c.args.request.now))
    ∙ ap (after_names s (create_of c.args.request.now) c.args.found) (c.in-Some.ensures s t e)

pub returns-in-None : goal.returns-in-None
returns-in-None c = λ s t e. c.check_sharing.ensures s t
    ∙ ap (after_names s (create_of c.args.request.now) c.args.found) (c.in-None.ensures s t e)
