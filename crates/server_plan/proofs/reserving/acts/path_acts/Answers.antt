use Rattle.std.proofs.Common.{ℕ, Option, ap, sym, ◌∙◌}
use Rattle.wire_commands.specs.values.Meaning.{command_of}
use Rattle.spec_exchange.specs.Effects.{change_acts}
use Rattle.spec_exchange.specs.Verdict as verdicts
use Rattle.server_checks.specs.verdicts.Views.{path_in}
use Rattle.server_plan.proofs.reserving.Differs.{path_differs}
use Rattle.server_plan.proofs.reserving.acts.path_acts.Goals as goal

pub returns-in-Some : goal.returns-in-Some
returns-in-Some c = λ s now h.
    ap (λ (o : Option ℕ). change_acts s c.args.file now
    (verdicts.PutPath o (path_in (command_of c.args.m.now.command)))) (sym c.in-Some.is)

pub returns-in-None : goal.returns-in-None
returns-in-None c = λ s now h. path_differs s c.args.file now c.path_of.result.now c.path.result.now
    (path_in (command_of c.args.m.now.command)) c.same_path.result
    c.same_path.ensures c.path_of.ensures (c.path.ensures s h.files)
    ∙ ap (λ (o : Option ℕ). change_acts s c.args.file now
    (verdicts.PutPath o (path_in (command_of c.args.m.now.command)))) (sym c.in-None.is)
