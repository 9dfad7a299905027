use Rattle.std.proofs.Common.{ℕ, subst, sym}
use Rattle.wire_commands.specs.values.Meaning.{command_of}
use Rattle.server_effects.specs.Able.{AbleToChange}
use Rattle.server_checks.specs.verdicts.Views.{change_of}
use Rattle.server_plan.proofs.reserving.Kept.{all_kept}
use Rattle.server_plan.proofs.reserving.alter.alter_ready.Goals as goal

pub returns-in-Ok-clause-room : goal.returns-in-Ok-clause-room
returns-in-Ok-clause-room c = c.altered_ready.ensures.room

pub returns-in-Ok-clause-shown : goal.returns-in-Ok-clause-shown
returns-in-Ok-clause-shown c = λ s f h a w.
    let e = c.file_of-file.ensures.shown s h a.0 in
    let there = c.file_of-file.ensures.there s f h a.0 in
    c.altered_ready.ensures.shown s c.args.now h there e
    (subst (λ (z : ℕ). AbleToChange s z (change_of (command_of c.args.m.now.command) c.args.change)) (sym e) a.1)
    (c.in-Ok.ensures s h there)

pub returns-in-Ok-clause-plain : goal.returns-in-Ok-clause-plain
returns-in-Ok-clause-plain c = c.altered_ready.ensures.plain

pub returns-in-Ok-clause-kept : goal.returns-in-Ok-clause-kept
returns-in-Ok-clause-kept c = c.altered_ready.ensures.kept

pub returns-in-Err-clause-shown : goal.returns-in-Err-clause-shown
returns-in-Err-clause-shown c = λ s f h a w. h

pub returns-in-Err-clause-kept : goal.returns-in-Err-clause-kept
returns-in-Err-clause-kept c = all_kept c.args.t.now
