use Rattle.std.specs.String.{string_bytes}
use Rattle.drill_command.proofs.Summed.{summed_by}
use Rattle.drill_command.proofs.generating.summary_of.Goals as goal

pub returns : goal.returns
returns c =
    summed_by string_bytes c.args.key c.args.operations c.args.seed _ c.ran_made.result c.requires c.made_headline_law.ensures.holds
    c.default_settings_law.ensures.fit c.run_course_law.ensures.courses c.new.ensures c.ran_made.ensures
