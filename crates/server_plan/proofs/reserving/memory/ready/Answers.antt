use Rattle.std.proofs.Common.{ap, subst, sym}
use Rattle.std.specs.Option.{option_copied}
use Rattle.wire_commands.specs.values.Meaning.{command_of, message_of}
use Rattle.server_checks.specs.verdicts.Views.{verdict_of}
use Rattle.server_checks.specs.declared.verdicts.verdict.Verdict.{Verdict}
use Rattle.server_plan.proofs.reserving.Kept.{all_kept, if_ok_by}
use Rattle.server_plan.proofs.reserving.Plain.{plain_alone, plain_readies, plain_room, sure_by, wanted}
use Rattle.server_plan.proofs.reserving.Steps.{alone_step}
use Rattle.server_plan.specs.reserving.Readies.{VerdictReadies, wants_memory}
use Rattle.server_plan.proofs.reserving.memory.ready.Goals as goal

pub returns-in-KeepRefusal-clause-room : goal.returns-in-KeepRefusal-clause-room
returns-in-KeepRefusal-clause-room c = c.refusal_ready.ensures.room

pub returns-in-KeepRefusal-clause-shown : goal.returns-in-KeepRefusal-clause-shown
returns-in-KeepRefusal-clause-shown c = λ p. subst (λ (v : Verdict). VerdictReadies c.args.t.now c.refusal_ready.new.t
    (message_of c.args.m.now) c.args.now
    (verdict_of (command_of c.args.m.now.command) v) c.refusal_ready.result) (sym c.in-KeepRefusal.is)
    (c.refusal_ready.ensures.shown c.args.now)

pub returns-in-KeepRefusal-clause-step : goal.returns-in-KeepRefusal-clause-step
returns-in-KeepRefusal-clause-step c = if_ok_by c.refusal_ready.result c.refusal_ready.ensures.plain
    (λ r h. alone_step c.args.t.now.sessions c.args.m.now.connection (option_copied c.args.logon) c.args.now r h)

pub returns-in-KeepRefusal-clause-sure : goal.returns-in-KeepRefusal-clause-sure
returns-in-KeepRefusal-clause-sure c = wanted c.refusal_ready.result
    (wants_memory (verdict_of (command_of c.args.m.now.command) c.args.verdict))
    (ap (λ (v : Verdict). wants_memory (verdict_of (command_of c.args.m.now.command) v)) c.in-KeepRefusal.is)

pub returns-in-KeepRefusal-clause-kept : goal.returns-in-KeepRefusal-clause-kept
returns-in-KeepRefusal-clause-kept c = c.refusal_ready.ensures.kept

pub returns-in-Repeat-clause-room : goal.returns-in-Repeat-clause-room
returns-in-Repeat-clause-room c = c.repeat_ready.ensures.room

pub returns-in-Repeat-clause-shown : goal.returns-in-Repeat-clause-shown
returns-in-Repeat-clause-shown c = λ p. subst (λ (v : Verdict). VerdictReadies c.args.t.now c.repeat_ready.new.t
    (message_of c.args.m.now) c.args.now
    (verdict_of (command_of c.args.m.now.command) v) c.repeat_ready.result) (sym c.in-Repeat.is) (c.repeat_ready.ensures.shown c.args.now)

pub returns-in-Repeat-clause-step : goal.returns-in-Repeat-clause-step
returns-in-Repeat-clause-step c = if_ok_by c.repeat_ready.result c.repeat_ready.ensures.plain
    (λ r h. alone_step c.args.t.now.sessions c.args.m.now.connection (option_copied c.args.logon) c.args.now r h)

pub returns-in-Repeat-clause-sure : goal.returns-in-Repeat-clause-sure
returns-in-Repeat-clause-sure c = wanted c.repeat_ready.result (wants_memory (verdict_of (command_of c.args.m.now.command) c.args.verdict))
    (ap (λ (v : Verdict). wants_memory (verdict_of (command_of c.args.m.now.command) v)) c.in-Repeat.is)

pub returns-in-Repeat-clause-kept : goal.returns-in-Repeat-clause-kept
returns-in-Repeat-clause-kept c = c.repeat_ready.ensures.kept

pub returns-in-Attach-clause-room : goal.returns-in-Attach-clause-room
returns-in-Attach-clause-room c = c.attach_ready.ensures.room

pub returns-in-Attach-clause-shown : goal.returns-in-Attach-clause-shown
returns-in-Attach-clause-shown c = λ p. subst (λ (v : Verdict). VerdictReadies c.args.t.now c.attach_ready.new.t
    (message_of c.args.m.now) c.args.now
    (verdict_of (command_of c.args.m.now.command) v) c.attach_ready.result) (sym c.in-Attach.is) (c.attach_ready.ensures.shown c.args.now)

pub returns-in-Attach-clause-step : goal.returns-in-Attach-clause-step
returns-in-Attach-clause-step c = if_ok_by c.attach_ready.result c.attach_ready.ensures.plain
    (λ r h. alone_step c.args.t.now.sessions c.args.m.now.connection (option_copied c.args.logon) c.args.now r h)

pub returns-in-Attach-clause-sure : goal.returns-in-Attach-clause-sure
returns-in-Attach-clause-sure c = wanted c.attach_ready.result (wants_memory (verdict_of (command_of c.args.m.now.command) c.args.verdict))
    (ap (λ (v : Verdict). wants_memory (verdict_of (command_of c.args.m.now.command) v)) c.in-Attach.is)

pub returns-in-Attach-clause-kept : goal.returns-in-Attach-clause-kept
returns-in-Attach-clause-kept c = c.attach_ready.ensures.kept

pub returns-in-Make-clause-room : goal.returns-in-Make-clause-room
returns-in-Make-clause-room c = c.make_ready.ensures.room

pub returns-in-Make-clause-shown : goal.returns-in-Make-clause-shown
returns-in-Make-clause-shown c = λ p. subst (λ (v : Verdict). VerdictReadies c.args.t.now c.make_ready.new.t
    (message_of c.args.m.now) c.args.now
    (verdict_of (command_of c.args.m.now.command) v) c.make_ready.result) (sym c.in-Make.is) (c.make_ready.ensures.shown)

pub returns-in-Make-clause-step : goal.returns-in-Make-clause-step
returns-in-Make-clause-step c = if_ok_by c.make_ready.result c.make_ready.ensures.plain
    (λ r h. alone_step c.args.t.now.sessions c.args.m.now.connection (option_copied c.args.logon) c.args.now r h)

pub returns-in-Make-clause-sure : goal.returns-in-Make-clause-sure
returns-in-Make-clause-sure c = wanted c.make_ready.result (wants_memory (verdict_of (command_of c.args.m.now.command) c.args.verdict))
    (ap (λ (v : Verdict). wants_memory (verdict_of (command_of c.args.m.now.command) v)) c.in-Make.is)

pub returns-in-Make-clause-kept : goal.returns-in-Make-clause-kept
returns-in-Make-clause-kept c = c.make_ready.ensures.kept

pub returns-in-Alter-clause-room : goal.returns-in-Alter-clause-room
returns-in-Alter-clause-room c = c.alter_ready.ensures.room

pub returns-in-Alter-clause-shown : goal.returns-in-Alter-clause-shown
returns-in-Alter-clause-shown c = λ p. subst (λ (v : Verdict). VerdictReadies c.args.t.now c.alter_ready.new.t
    (message_of c.args.m.now) c.args.now
    (verdict_of (command_of c.args.m.now.command) v) c.alter_ready.result) (sym c.in-Alter.is) (c.alter_ready.ensures.shown)

pub returns-in-Alter-clause-step : goal.returns-in-Alter-clause-step
returns-in-Alter-clause-step c = if_ok_by c.alter_ready.result c.alter_ready.ensures.plain
    (λ r h. alone_step c.args.t.now.sessions c.args.m.now.connection (option_copied c.args.logon) c.args.now r h)

pub returns-in-Alter-clause-sure : goal.returns-in-Alter-clause-sure
returns-in-Alter-clause-sure c = wanted c.alter_ready.result (wants_memory (verdict_of (command_of c.args.m.now.command) c.args.verdict))
    (ap (λ (v : Verdict). wants_memory (verdict_of (command_of c.args.m.now.command) v)) c.in-Alter.is)

pub returns-in-Alter-clause-kept : goal.returns-in-Alter-clause-kept
returns-in-Alter-clause-kept c = c.alter_ready.ensures.kept

pub returns-in-AddTree-clause-room : goal.returns-in-AddTree-clause-room
returns-in-AddTree-clause-room c = c.tree_ready.ensures.room

pub returns-in-AddTree-clause-shown : goal.returns-in-AddTree-clause-shown
returns-in-AddTree-clause-shown c = λ p. subst (λ (v : Verdict). VerdictReadies c.args.t.now c.tree_ready.new.t
    (message_of c.args.m.now) c.args.now
    (verdict_of (command_of c.args.m.now.command) v) c.tree_ready.result) (sym c.in-AddTree.is) (c.tree_ready.ensures.shown c.args.now)

pub returns-in-AddTree-clause-step : goal.returns-in-AddTree-clause-step
returns-in-AddTree-clause-step c = if_ok_by c.tree_ready.result c.tree_ready.ensures.plain
    (λ r h. alone_step c.args.t.now.sessions c.args.m.now.connection (option_copied c.args.logon) c.args.now r h)

pub returns-in-AddTree-clause-sure : goal.returns-in-AddTree-clause-sure
returns-in-AddTree-clause-sure c = wanted c.tree_ready.result (wants_memory (verdict_of (command_of c.args.m.now.command) c.args.verdict))
    (ap (λ (v : Verdict). wants_memory (verdict_of (command_of c.args.m.now.command) v)) c.in-AddTree.is)

pub returns-in-AddTree-clause-kept : goal.returns-in-AddTree-clause-kept
returns-in-AddTree-clause-kept c = c.tree_ready.ensures.kept

pub returns-in-DropTree-clause-room : goal.returns-in-DropTree-clause-room
returns-in-DropTree-clause-room c = c.tree_end_ready.ensures.room

pub returns-in-DropTree-clause-shown : goal.returns-in-DropTree-clause-shown
returns-in-DropTree-clause-shown c = λ p. subst (λ (v : Verdict). VerdictReadies c.args.t.now c.tree_end_ready.new.t
    (message_of c.args.m.now) c.args.now
    (verdict_of (command_of c.args.m.now.command) v) c.tree_end_ready.result) (sym c.in-DropTree.is) (c.tree_end_ready.ensures.shown c.args.now)

pub returns-in-DropTree-clause-step : goal.returns-in-DropTree-clause-step
returns-in-DropTree-clause-step c = if_ok_by c.tree_end_ready.result c.tree_end_ready.ensures.plain
    (λ r h. alone_step c.args.t.now.sessions c.args.m.now.connection (option_copied c.args.logon) c.args.now r h)

pub returns-in-DropTree-clause-sure : goal.returns-in-DropTree-clause-sure
returns-in-DropTree-clause-sure c = wanted c.tree_end_ready.result (wants_memory (verdict_of (command_of c.args.m.now.command) c.args.verdict))
    (ap (λ (v : Verdict). wants_memory (verdict_of (command_of c.args.m.now.command) v)) c.in-DropTree.is)

pub returns-in-DropTree-clause-kept : goal.returns-in-DropTree-clause-kept
returns-in-DropTree-clause-kept c = c.tree_end_ready.ensures.kept

pub returns-in-Challenge-clause-room : goal.returns-in-Challenge-clause-room
returns-in-Challenge-clause-room c = c.challenge_ready.ensures.room

pub returns-in-Challenge-clause-shown : goal.returns-in-Challenge-clause-shown
returns-in-Challenge-clause-shown c = λ p. subst (λ (v : Verdict). VerdictReadies c.args.t.now c.challenge_ready.new.t
    (message_of c.args.m.now) c.args.now
    (verdict_of (command_of c.args.m.now.command) v) c.challenge_ready.result) (sym c.in-Challenge.is) (c.challenge_ready.ensures.shown)

pub returns-in-Challenge-clause-step : goal.returns-in-Challenge-clause-step
returns-in-Challenge-clause-step c = c.challenge_ready.ensures.step

pub returns-in-Challenge-clause-sure : goal.returns-in-Challenge-clause-sure
returns-in-Challenge-clause-sure c = wanted c.challenge_ready.result
    (wants_memory (verdict_of (command_of c.args.m.now.command) c.args.verdict))
    (ap (λ (v : Verdict). wants_memory (verdict_of (command_of c.args.m.now.command) v)) c.in-Challenge.is)

pub returns-in-Challenge-clause-kept : goal.returns-in-Challenge-clause-kept
returns-in-Challenge-clause-kept c = c.challenge_ready.ensures.kept

pub returns-in-ChallengeBinding-clause-room : goal.returns-in-ChallengeBinding-clause-room
returns-in-ChallengeBinding-clause-room c = c.challenge_ready-in-ChallengeBinding.ensures.room

pub returns-in-ChallengeBinding-clause-shown : goal.returns-in-ChallengeBinding-clause-shown
returns-in-ChallengeBinding-clause-shown c = λ p.
    subst (λ (v : Verdict). VerdictReadies c.args.t.now c.challenge_ready-in-ChallengeBinding.new.t
    (message_of c.args.m.now) c.args.now
    (verdict_of (command_of c.args.m.now.command) v) c.challenge_ready-in-ChallengeBinding.result)
    (sym c.in-ChallengeBinding.is) (c.challenge_ready-in-ChallengeBinding.ensures.shown)

pub returns-in-ChallengeBinding-clause-step : goal.returns-in-ChallengeBinding-clause-step
returns-in-ChallengeBinding-clause-step c = c.challenge_ready-in-ChallengeBinding.ensures.step

pub returns-in-ChallengeBinding-clause-sure : goal.returns-in-ChallengeBinding-clause-sure
returns-in-ChallengeBinding-clause-sure c = wanted c.challenge_ready-in-ChallengeBinding.result
    (wants_memory (verdict_of (command_of c.args.m.now.command) c.args.verdict))
    (ap (λ (v : Verdict). wants_memory (verdict_of (command_of c.args.m.now.command) v)) c.in-ChallengeBinding.is)

pub returns-in-ChallengeBinding-clause-kept : goal.returns-in-ChallengeBinding-clause-kept
returns-in-ChallengeBinding-clause-kept c = c.challenge_ready-in-ChallengeBinding.ensures.kept

pub returns-in-Begin-clause-room : goal.returns-in-Begin-clause-room
returns-in-Begin-clause-room c = c.begin_ready.ensures.room

pub returns-in-Begin-clause-shown : goal.returns-in-Begin-clause-shown
returns-in-Begin-clause-shown c = λ p. subst (λ (v : Verdict). VerdictReadies c.args.t.now c.begin_ready.new.t
    (message_of c.args.m.now) c.args.now
    (verdict_of (command_of c.args.m.now.command) v) c.begin_ready.result) (sym c.in-Begin.is) (c.begin_ready.ensures.shown c.args.now p)

pub returns-in-Begin-clause-step : goal.returns-in-Begin-clause-step
returns-in-Begin-clause-step c = c.begin_ready.ensures.step c.args.now

pub returns-in-Begin-clause-sure : goal.returns-in-Begin-clause-sure
returns-in-Begin-clause-sure c = wanted c.begin_ready.result (wants_memory (verdict_of (command_of c.args.m.now.command) c.args.verdict))
    (ap (λ (v : Verdict). wants_memory (verdict_of (command_of c.args.m.now.command) v)) c.in-Begin.is)

pub returns-in-Begin-clause-kept : goal.returns-in-Begin-clause-kept
returns-in-Begin-clause-kept c = c.begin_ready.ensures.kept

pub returns-in-Join-clause-room : goal.returns-in-Join-clause-room
returns-in-Join-clause-room c = c.join_ready.ensures.room

pub returns-in-Join-clause-shown : goal.returns-in-Join-clause-shown
returns-in-Join-clause-shown c = λ p. subst (λ (v : Verdict). VerdictReadies c.args.t.now c.join_ready.new.t
    (message_of c.args.m.now) c.args.now
    (verdict_of (command_of c.args.m.now.command) v) c.join_ready.result) (sym c.in-Join.is) (c.join_ready.ensures.shown c.args.now)

pub returns-in-Join-clause-step : goal.returns-in-Join-clause-step
returns-in-Join-clause-step c = c.join_ready.ensures.step c.args.now

pub returns-in-Join-clause-sure : goal.returns-in-Join-clause-sure
returns-in-Join-clause-sure c = wanted c.join_ready.result (wants_memory (verdict_of (command_of c.args.m.now.command) c.args.verdict))
    (ap (λ (v : Verdict). wants_memory (verdict_of (command_of c.args.m.now.command) v)) c.in-Join.is)

pub returns-in-Join-clause-kept : goal.returns-in-Join-clause-kept
returns-in-Join-clause-kept c = c.join_ready.ensures.kept

pub returns-in_default-clause-room : goal.returns-in_default-clause-room
returns-in_default-clause-room c = if_ok_by c.plain_ready.result c.plain_ready.ensures.plain
    (λ r h. plain_room c.args.t.now c.args.m.now.session_id c.args.m.now.connection r h)

pub returns-in_default-clause-shown : goal.returns-in_default-clause-shown
returns-in_default-clause-shown c = λ p. plain_readies c.args.t.now (message_of c.args.m.now) c.args.now c.args.verdict c.plain_ready.result
    c.plain_ready.ensures.stands c.plain_ready.ensures.plain

pub returns-in_default-clause-step : goal.returns-in_default-clause-step
returns-in_default-clause-step c = if_ok_by c.plain_ready.result c.plain_ready.ensures.plain
    (λ r h. alone_step c.args.t.now.sessions c.args.m.now.connection (option_copied c.args.logon) c.args.now r (plain_alone r h))

pub returns-in_default-clause-kept : goal.returns-in_default-clause-kept
returns-in_default-clause-kept c = all_kept c.args.t.now

pub returns-in_default-clause-sure : goal.returns-in_default-clause-sure
returns-in_default-clause-sure c = sure_by c.plain_ready.result (wants_memory (verdict_of (command_of c.args.m.now.command) c.args.verdict))
    (c.plain_ready.ensures.sure (command_of c.args.m.now.command))
