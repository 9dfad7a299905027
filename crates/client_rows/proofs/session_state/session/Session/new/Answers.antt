use Rattle.std.proofs.Common.{List, Bool, false, sym, subst}
use Rattle.spec_exchange.specs.Network.{start}
use Rattle.client_rows.specs.session_state.Shown.{ClientShowsSession}
use Rattle.client_rows.proofs.session_state.Showing.{starts}
use Rattle.client_rows.proofs.session_state.session.Session.new.Goals as goal

pub returns : goal.returns
returns c = λ settings. subst (λ (rs : List Bool). ClientShowsSession (record {
  live = false;
  id = 0;
  number = 0;
  tree = 0;
  sequence = 0;
  ready = rs;
  channels = 0;
}) (start settings).client) (sym c.none_ready.ensures) (starts settings)
