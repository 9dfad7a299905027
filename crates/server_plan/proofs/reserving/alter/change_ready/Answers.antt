use Rattle.std.proofs.Common.{MatchResult, subst, sym}
use Rattle.wire_commands.specs.values.Meaning.{command_of}
use Rattle.store_files.specs.file_tree.Shown.{ShowsFiles}
use Rattle.server_effects.specs.Able.{AbleToChange}
use Rattle.server_effects.specs.declared.changing.ChangeReady.TheVariants as changes
use Rattle.server_checks.specs.verdicts.Views.{change_of}
use Rattle.server_checks.specs.declared.verdicts.verdict.Change.{Change}
use Rattle.server_plan.proofs.reserving.Alters.{basic_ready, end_ready, nothing_ready, pending_ready}
use Rattle.server_plan.specs.reserving.Readies.{IsChangeReady}
use Rattle.server_plan.proofs.reserving.alter.change_ready.Goals as goal

pub returns-in-PutBytes-clause-shown : goal.returns-in-PutBytes-clause-shown
returns-in-PutBytes-clause-shown c = λ s h x a.
    subst (λ (v : Change). AbleToChange s c.args.file (change_of (command_of c.args.m.now.command) v)
    → MatchResult c.bytes_ready.result (λ r. IsChangeReady c.bytes_ready.new.t s c.args.file
    (command_of c.args.m.now.command) (change_of (command_of c.args.m.now.command) v) r)
    (λ _. ShowsFiles c.bytes_ready.new.t.tree s)) (sym c.in-PutBytes.is) (c.bytes_ready.ensures.shown s h x) a

pub returns-in-PutBytes-clause-kept : goal.returns-in-PutBytes-clause-kept
returns-in-PutBytes-clause-kept c = c.bytes_ready.ensures.kept

pub returns-in-PutPath-clause-shown : goal.returns-in-PutPath-clause-shown
returns-in-PutPath-clause-shown c = λ s h x a.
    subst (λ (v : Change). AbleToChange s c.args.file (change_of (command_of c.args.m.now.command) v)
    → MatchResult c.path_ready.result (λ r. IsChangeReady c.path_ready.new.t s c.args.file
    (command_of c.args.m.now.command) (change_of (command_of c.args.m.now.command) v) r)
    (λ _. ShowsFiles c.path_ready.new.t.tree s)) (sym c.in-PutPath.is) (c.path_ready.ensures.shown s c.in-PutPath.replaced h x) a

pub returns-in-PutPath-clause-kept : goal.returns-in-PutPath-clause-kept
returns-in-PutPath-clause-kept c = c.path_ready.ensures.kept

pub returns-in-PutEnd-clause-shown : goal.returns-in-PutEnd-clause-shown
returns-in-PutEnd-clause-shown c = λ s h x a.
    subst (λ (v : Change). IsChangeReady c.args.t.now s c.args.file (command_of c.args.m.now.command)
    (change_of (command_of c.args.m.now.command) v) (changes.PutEnd c.in-PutEnd.size)) (sym c.in-PutEnd.is)
    (end_ready c.args.t.now s c.args.file c.in-PutEnd.size (command_of c.args.m.now.command) h)

pub returns-in-PutBasic-clause-shown : goal.returns-in-PutBasic-clause-shown
returns-in-PutBasic-clause-shown c = λ s h x a.
    subst (λ (v : Change). IsChangeReady c.args.t.now s c.args.file (command_of c.args.m.now.command)
    (change_of (command_of c.args.m.now.command) v) (changes.PutBasic c.in-PutBasic.basic)) (sym c.in-PutBasic.is)
    (basic_ready c.args.t.now s c.args.file c.in-PutBasic.basic (command_of c.args.m.now.command) h)

pub returns-in-PutDeletePending-clause-shown : goal.returns-in-PutDeletePending-clause-shown
returns-in-PutDeletePending-clause-shown c = λ s h x a.
    subst (λ (v : Change). IsChangeReady c.args.t.now s c.args.file (command_of c.args.m.now.command)
    (change_of (command_of c.args.m.now.command) v) (changes.PutDeletePending c.in-PutDeletePending.pending))
    (sym c.in-PutDeletePending.is) (pending_ready c.args.t.now s c.args.file c.in-PutDeletePending.pending
    (command_of c.args.m.now.command) h)

pub returns-in-PutNothing-clause-shown : goal.returns-in-PutNothing-clause-shown
returns-in-PutNothing-clause-shown c = λ s h x a.
    subst (λ (v : Change). IsChangeReady c.args.t.now s c.args.file (command_of c.args.m.now.command)
    (change_of (command_of c.args.m.now.command) v) changes.PutNothing) (sym c.in-PutNothing.is)
    (nothing_ready c.args.t.now s c.args.file (command_of c.args.m.now.command) h)
