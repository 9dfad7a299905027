use Rattle.std.proofs.Common.{ℕ, ◌<◌, List, length, sym, subst, ◌∙◌}
use Rattle.client_ends.specs.dialog_requests.Dialogs.{setup_value}
use Rattle.client_ends.proofs.dialog_requests.Setups.{flagged, size_of}
use Rattle.client_ends.proofs.dialog_requests.setup.setup_body.Goals as goal

pub returns-clause-spelled : goal.returns-clause-spelled
returns-clause-spelled c = c.in_ok-body.ensures ∙ flagged c.args.setup.now c.binding_flag.result c.binding_flag.ensures

pub returns-clause-size : goal.returns-clause-size
returns-clause-size c =
    let is = c.in_ok-body.ensures ∙ flagged c.args.setup.now c.binding_flag.result c.binding_flag.ensures in
    subst (λ (b : List ℕ). length b < 65600) (sym is) (size_of (setup_value c.args.setup.now) c.requires)
