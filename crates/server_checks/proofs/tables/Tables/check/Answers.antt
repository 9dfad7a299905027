use Rattle.std.proofs.Common.{◌∙◌, sym}
use Rattle.wire_commands.specs.values.Meaning.{command_of, message_of}
use Rattle.spec_exchange.specs.Check.{has_session}
use Rattle.spec_exchange.specs.Commands.{is_setup}
use Rattle.server_checks.specs.verdicts.Views.{verdict_of}
use Rattle.server_checks.proofs.Passed.{back_on, front_on, passed}
use Rattle.server_checks.proofs.Sessions.{lives, set_up, owed_by_setup, owed_by_session, refused_without}
use Rattle.server_checks.proofs.tables.Tables.check.Goals as goal

pub returns-then-is_setup-clause-verdict : goal.returns-then-is_setup-clause-verdict
returns-then-is_setup-clause-verdict c = λ s f t.
    let e = sym c.is_setup.ensures ∙ c.if-is_setup.true in
    passed c.check_owed.result (verdict_of (command_of c.args.m.now.command)) _ _ (owed_by_setup s (message_of c.args.m.now) e)
    (c.check_owed.ensures.verdict s f t (set_up s (message_of c.args.m.now) e))

pub returns-then-is_setup-clause-absent : goal.returns-then-is_setup-clause-absent
returns-then-is_setup-clause-absent c = λ s t h. absurd (front_on (is_setup (command_of c.args.m.now.command))
    (has_session s (message_of c.args.m.now)) (sym c.is_setup.ensures ∙ c.if-is_setup.true) h)

pub returns-then-is_setup-clause-faulty : goal.returns-then-is_setup-clause-faulty
returns-then-is_setup-clause-faulty c = c.check_owed.ensures.faulty

pub returns-then-has_session-clause-verdict : goal.returns-then-has_session-clause-verdict
returns-then-has_session-clause-verdict c = λ s f t.
    let e = sym (c.has_session.ensures s t) ∙ c.if-has_session.true in
    passed c.check_owed-then-has_session.result (verdict_of (command_of c.args.m.now.command)) _ _
    (owed_by_session s (message_of c.args.m.now) e)
    (c.check_owed-then-has_session.ensures.verdict s f t (lives s (message_of c.args.m.now) f e))

pub returns-then-has_session-clause-absent : goal.returns-then-has_session-clause-absent
returns-then-has_session-clause-absent c = λ s t h. absurd (back_on (is_setup (command_of c.args.m.now.command))
    (has_session s (message_of c.args.m.now)) (sym (c.has_session.ensures s t) ∙ c.if-has_session.true) h)

pub returns-then-has_session-clause-faulty : goal.returns-then-has_session-clause-faulty
returns-then-has_session-clause-faulty c = c.check_owed-then-has_session.ensures.faulty

pub returns-clause-verdict : goal.returns-clause-verdict
returns-clause-verdict c = λ s f t. c.refuse.ensures (command_of c.args.m.now.command)
    ∙ refused_without s (message_of c.args.m.now) (sym c.is_setup.ensures ∙ c.if-is_setup.false)
    (sym (c.has_session.ensures s t) ∙ c.if-has_session.false)
