use Rattle.std.proofs.Common.{ap, sym, ◌∙◌}
use Rattle.wire_commands.specs.values.Meaning.{command_of}
use Rattle.spec_exchange.specs.Effects.{change_acts}
use Rattle.server_checks.specs.verdicts.Views.{change_of}
use Rattle.server_checks.specs.declared.verdicts.verdict.Change.{Change}
use Rattle.server_plan.proofs.reserving.Kept.{if_ok_by}
use Rattle.server_plan.proofs.reserving.acts.change_acts.Goals as goal

pub returns-in-PutBytes : goal.returns-in-PutBytes
returns-in-PutBytes c = if_ok_by c.bytes_act.result c.bytes_act.ensures (λ b f s h x. f s h x
    ∙ ap (λ (v : Change). change_acts s c.args.file c.args.now (change_of (command_of c.args.m.now.command) v)) (sym c.in-PutBytes.is))

pub returns-in-PutEnd : goal.returns-in-PutEnd
returns-in-PutEnd c = λ s h x. c.end_acts.ensures s h x
    ∙ ap (λ (v : Change). change_acts s c.args.file c.args.now (change_of (command_of c.args.m.now.command) v)) (sym c.in-PutEnd.is)

pub returns-in-PutBasic : goal.returns-in-PutBasic
returns-in-PutBasic c = λ s h x. c.basic_acts.ensures s c.args.now h x
    ∙ ap (λ (v : Change). change_acts s c.args.file c.args.now (change_of (command_of c.args.m.now.command) v)) (sym c.in-PutBasic.is)

pub returns-in-PutDeletePending : goal.returns-in-PutDeletePending
returns-in-PutDeletePending c = λ s h x. c.pending_acts.ensures s c.args.now h x
    ∙ ap (λ (v : Change). change_acts s c.args.file c.args.now (change_of (command_of c.args.m.now.command) v))
    (sym c.in-PutDeletePending.is)

pub returns-in-PutPath : goal.returns-in-PutPath
returns-in-PutPath c = λ s h x. c.path_acts.ensures s c.args.now h
    ∙ ap (λ (v : Change). change_acts s c.args.file c.args.now (change_of (command_of c.args.m.now.command) v)) (sym c.in-PutPath.is)

pub returns-in-PutNothing : goal.returns-in-PutNothing
returns-in-PutNothing c = λ s h x.
    ap (λ (v : Change). change_acts s c.args.file c.args.now (change_of (command_of c.args.m.now.command) v))
    (sym c.in-PutNothing.is)
