use Rattle.std.proofs.Common.{ℕ, ap, ◌∙◌}
use Rattle.spec_exchange.specs.Effects.{change_records}
use Rattle.wire_commands.specs.values.Meaning.{command_of, message_of}
use Rattle.server_checks.specs.verdicts.Views.{change_of}
use Rattle.server_plan.proofs.owed_records.Told.{if_ok_by}
use Rattle.server_plan.proofs.owed_records.verdict.altered_records.Goals as goal

pub returns : goal.returns
returns c = λ s o st.
    if_ok_by c.change_records.result c.change_records.ensures
    (λ rs e. e ∙ ap (λ (z : ℕ). change_records (message_of c.args.m.now) z c.args.now (change_of (command_of c.args.m.now.command)
    c.args.change.now)) (c.file_of-file.ensures.shown s o st))
