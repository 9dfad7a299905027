use Rattle.std.proofs.Common.{sym, subst}
use Rattle.spec_exchange.specs.Client.{end_session}
use Rattle.client_rows.specs.declared.session_state.session.Session.{Session}
use Rattle.client_rows.specs.session_state.Shown.{ClientShowsSession}
use Rattle.client_rows.proofs.session_state.Showing.{ends}
use Rattle.client_rows.proofs.session_state.session.Session.end.Goals as goal

pub returns : goal.returns
returns c = λ d h. subst (λ (z : Session). ClientShowsSession z (end_session d)) (sym c.close.ensures) (ends c.args.self.now d h)
