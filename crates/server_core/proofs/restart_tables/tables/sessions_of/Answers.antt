use Rattle.spec_exchange.specs.Fold.{nothing_yet}
use Rattle.spec_world.specs.Ends.{no_logons}
use Rattle.server_core.proofs.restart_tables.Sessions.{shown_begun}
use Rattle.server_core.proofs.restart_tables.tables.sessions_of.Goals as goal

pub returns : goal.returns
returns c = record {
  shown = λ s e b. shown_begun c.begin_epoch.new.self c.args.epoch s
      (c.begin_epoch.ensures.shows nothing_yet c.new-sessions.ensures.shows) e b;
  logons = c.begin_epoch.ensures.logons no_logons.keys no_logons.pending
      (c.new-sessions.ensures.logons no_logons.keys no_logons.pending);
}
