-- All tables, where the files are shown too.
use Rattle.spec_exchange.specs.State.{Server}
use Rattle.store_files.specs.file_tree.Shown.{ShowsFiles}
use Rattle.server_checks.specs.Shown.{TablesShown}
use Rattle.server_checks.specs.declared.tables.Tables.{Tables}
use Rattle.server_effects.specs.Ready.{OthersShown}

pub whole : (t : Tables) (s : Server) → OthersShown t s → ShowsFiles t.tree s → TablesShown t s
whole t s h files = record {
  opens = h.opens;
  files = files;
  sessions = h.sessions;
  share_is = h.share_is;
  room_is = h.room_is;
  encrypts_is = h.encrypts_is;
  address_is = h.address_is;
  version_is = h.version_is;
  journal_is = h.journal_is;
}
