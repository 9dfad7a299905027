use Rattle.wire_commands.specs.values.Meaning.{command_of, message_of}
use Rattle.server_checks.specs.verdicts.Views.{change_of}
use Rattle.server_plan.proofs.reserving.Alters.{altered_for}
use Rattle.server_plan.proofs.reserving.Kept.{tree_kept, tree_others, tree_shown}
use Rattle.server_plan.proofs.reserving.alter.altered_ready.Goals as goal

pub returns-in-Ok-clause-shown : goal.returns-in-Ok-clause-shown
returns-in-Ok-clause-shown c = λ s now h there e a acts. altered_for c.change_ready.new.t s (message_of c.args.m.now)
    now c.args.id c.args.file
    (change_of (command_of c.args.m.now.command) c.args.change) c.in-Ok.change c.args.body c.args.acts
    (tree_others c.args.t.now c.change_ready.new.t s c.in-Ok.ensures.kept h) e (c.in-Ok.ensures.shown s h.files there a) acts

pub returns-in-Ok-clause-kept : goal.returns-in-Ok-clause-kept
returns-in-Ok-clause-kept c = tree_kept c.args.t.now c.change_ready.new.t c.in-Ok.ensures.kept

pub returns-in-Err-clause-shown : goal.returns-in-Err-clause-shown
returns-in-Err-clause-shown c = λ s now h there e a acts. tree_shown c.args.t.now c.change_ready.new.t s
    c.in-Err.ensures.kept h (c.in-Err.ensures.shown s h.files there a)

pub returns-in-Err-clause-kept : goal.returns-in-Err-clause-kept
returns-in-Err-clause-kept c = tree_kept c.args.t.now c.change_ready.new.t c.in-Err.ensures.kept
