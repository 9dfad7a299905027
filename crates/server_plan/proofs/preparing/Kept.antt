-- What memory that is made ready leaves as it was.
use Rattle.std.proofs.Common.{refl}
use Rattle.spec_exchange.specs.State as model
use Rattle.server_checks.specs.Shown.{TablesShown}
use Rattle.server_checks.specs.declared.tables.Tables.{Tables}
use Rattle.server_plan.specs.reserving.Readies.{TablesKeep}
use Rattle.server_checks.specs.session_table.Logons.{LogonsStay}
use Rattle.server_checks.specs.session_table.Shown.{ShowsSessions}
use Rattle.server_checks.specs.declared.session_table.table.Sessions.{Sessions}

pub tables_stay : (t : Tables) → TablesKeep t t
tables_stay t = record {
  config = refl;
  logons = λ keys pending k. k;
  room = λ r. r;
  undated = refl;
  journal = refl;
  version = refl;
}

-- sessions alone changed, and show the same
pub sessions_keep : (t : Tables) (u : Sessions) → LogonsStay t.sessions u → TablesKeep t (record t { sessions = u })
sessions_keep t u l = record {
  config = refl;
  logons = l;
  room = λ r. r;
  undated = refl;
  journal = refl;
  version = refl;
}

pub sessions_shown : (t : Tables) (u : Sessions) (s : model.Server) → TablesShown t s → ShowsSessions u s
    → TablesShown (record t { sessions = u }) s
sessions_shown t u s h v = record {
  opens = h.opens;
  files = h.files;
  sessions = v;
  share_is = h.share_is;
  room_is = h.room_is;
  encrypts_is = h.encrypts_is;
  address_is = h.address_is;
  version_is = h.version_is;
  journal_is = h.journal_is;
}
