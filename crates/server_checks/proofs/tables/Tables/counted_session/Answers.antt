use Rattle.std.proofs.Common.{nat_le, false, sym, ◌∙◌}
use Rattle.wire_commands.specs.values.Meaning.{setup_of}
use Rattle.spec_exchange.specs.CheckSetup.{max_sessions, previous_of}
use Rattle.spec_exchange.specs.Commands.{Setup}
use Rattle.spec_exchange.specs.Status.{insufficient_resources}
use Rattle.spec_exchange.specs.Verdict.{Begin, Refuse}
use Rattle.server_checks.proofs.Passed.{else_is, then_is}
use Rattle.server_checks.proofs.tables.Tables.counted_session.Goals as goal

pub returns-then-has_no_session_left : goal.returns-then-has_no_session_left
returns-then-has_no_session_left c = λ s t e. c.refuse.ensures (Setup (setup_of c.args.request.now))
    ∙ then_is (nat_le max_sessions s.sessions) (Refuse insufficient_resources)
    (Begin c.args.m.now.session_id c.args.user.now (previous_of s c.args.user.now c.args.request.now.previous)
    (setup_of c.args.request.now) false)
    (sym (c.has_no_session_left.ensures s t) ∙ c.if-has_no_session_left.true)

pub returns : goal.returns
returns c = λ s t e. c.begun.ensures s t e
    ∙ else_is (nat_le max_sessions s.sessions) (Refuse insufficient_resources)
    (Begin c.args.m.now.session_id c.args.user.now (previous_of s c.args.user.now c.args.request.now.previous)
    (setup_of c.args.request.now) false)
    (sym (c.has_no_session_left.ensures s t) ∙ c.if-has_no_session_left.false)
