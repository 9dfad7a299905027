use Rattle.std.proofs.Common.{sym, ◌∙◌}
use Rattle.wire_commands.specs.values.Meaning.{command_of, message_of}
use Rattle.spec_exchange.specs.Table.{is_at}
use Rattle.spec_exchange.specs.Opens.{is_of_session}
use Rattle.server_checks.proofs.Dispatch.{not_this, on_this}
use Rattle.server_checks.proofs.Passed.{passed}
use Rattle.server_checks.specs.Looks.{open_command}
use Rattle.law_server.proofs.tables.Logic.{front_of}
use Rattle.server_checks.specs.verdicts.Views.{verdict_of}
use Rattle.server_checks.proofs.tables.Tables.check_open_of.Goals as goal

pub returns-then-is_of_tree : goal.returns-then-is_of_tree
returns-then-is_of_tree c = λ s f t e.
    let k = sym (c.is_of_tree-is_of_tree.ensures s t.opens) ∙ c.if-is_of_tree.true in
    passed c.check_on_open.result (verdict_of (command_of c.args.m.now.command)) _ _
    (on_this s (message_of c.args.m.now) c.args.id
    (open_command s (message_of c.args.m.now) c.args.id (command_of c.args.m.now.command)) k)
    (c.check_on_open.ensures s f t e
    (front_of (s.standing c.args.id) (is_at c.args.m.now.session_id (s.session_of_open c.args.id))
    (front_of (is_of_session s c.args.id c.args.m.now.session_id) _ k)))

pub returns : goal.returns
returns c = λ s f t e. c.refuse.ensures (command_of c.args.m.now.command)
    ∙ not_this s (message_of c.args.m.now) c.args.id
    (open_command s (message_of c.args.m.now) c.args.id (command_of c.args.m.now.command))
    (sym (c.is_of_tree-is_of_tree.ensures s t.opens) ∙ c.if-is_of_tree.false)
