use Rattle.std.proofs.Common.{sym, subst}
use Rattle.client_steps.specs.declared.whole_client.client.Client.{Client as Core}
use Rattle.client_rows.specs.session_state.Shown.{ClientShowsSession}
use Rattle.world_steps.proofs.opening.beginning.bound_of.Goals as goal

pub returns : goal.returns
returns c = λ m s. c.session_bound.ensures m (subst (λ (x : Core). ClientShowsSession x.table.session m)
    (sym c.client.ensures) s.table.session)
