use Rattle.std.proofs.Common.{refl, sym, ◌∙◌}
use Rattle.world_steps.proofs.dialogs.fronting.dialog_out.Goals as goal

pub returns-in-Talks : goal.returns-in-Talks
returns-in-Talks c = (sym c.replace.ensures.value ∙ c.in-Talks.is, c.replace.ensures.after)

pub returns-in-Closed : goal.returns-in-Closed
returns-in-Closed c = refl

pub returns-in-Ready : goal.returns-in-Ready
returns-in-Ready c = rw c.no_dialog.ensures refl
