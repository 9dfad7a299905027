use Rattle.std.proofs.Common.{ℕ, List, subst}
use Rattle.client_ends.specs.dialog_calls.Ending.{IsConnecting}
use Rattle.client_ends.proofs.dialog_calls.ending.tree_body.Goals as goal

pub returns-in-Ok : goal.returns-in-Ok
returns-in-Ok c =
    let wrote = c.in-Ok.ensures in
    subst (λ (s : List ℕ). IsConnecting s c.in-Ok.body) c.in_ok-share.ensures (wrote.1, wrote.0)
