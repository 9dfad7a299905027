-- The server's tables show a state of the model, column by column.
use Rattle.std.specs.Prelude.{◌≡◌, min}
use Rattle.spec_exchange.specs.Fold.{full_room}
use Rattle.spec_exchange.specs.State as model
use Rattle.store_opens.specs.open_table.Shown.{ShowsOpens}
use Rattle.store_files.specs.file_tree.Shown.{ShowsFiles}
use Rattle.server_checks.specs.session_table.Shown.{ShowsSessions}
use Rattle.wire_commands.specs.values.Meaning.{address_of}
use Rattle.server_checks.specs.declared.tables.Tables.{Tables}

pub record TablesShown (t : Tables) (s : model.Server) : Type 0 where
  pub opens : ShowsOpens t.opens s
  pub files : ShowsFiles t.tree s
  pub sessions : ShowsSessions t.sessions s
  pub share_is : s.share ≡ t.config.share
  -- more than the full room counts as that
  pub room_is : s.room ≡ min t.config.room full_room
  pub encrypts_is : s.encrypts ≡ t.config.encrypts
  pub address_is : s.address ≡ address_of t.config.address
  pub version_is : s.version ≡ t.version
  pub journal_is : s.journal ≡ t.journal
