use Rattle.std.proofs.Common.{[]}
use Rattle.client_ends.specs.dialog_calls.Turning.{DialogHears}
use Rattle.client_ends.specs.declared.dialog_calls.heard.Heard.{Heard}
use Rattle.client_ends.specs.declared.dialog_calls.heard.Heard.TheVariants as heards
use Rattle.client_ends.specs.ends.Shown.{ShowsDialog}
use Rattle.spec_world.specs.Ends.{ClientEnd}
use Rattle.world_steps.proofs.dialogs.Refused.{joined_with}
use Rattle.world_steps.specs.declared.dialogs.joining.Joined.{Joined}
use Rattle.world_steps.proofs.dialogs.joining.join_of.Goals as goal

pub returns-in-Ok : goal.returns-in-Ok
returns-in-Ok c =
    joined_with (λ (h : Heard). (n : ClientEnd) → ShowsDialog c.args.dialog.now n
    → DialogHears n.stage c.args.dialog.now n [] c.args.number c.hear_frame.new.dialog h) c.in-Ok.heard
    (λ (j : Joined). heards.Ready j.line j.session j.tree) c.joined_of.result c.joined_of.ensures c.in-Ok.ensures
