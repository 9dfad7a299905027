-- What was made ready of a new open stands for it.
use Rattle.std.specs.Prelude.{◌≡◌, ℕ, true, false, Option, Some, None}
use Rattle.spec_exchange.specs.CheckCreate.{empties}
use Rattle.spec_exchange.specs.Commands as asks
use Rattle.spec_exchange.specs.Commands.{asks_directory}
use Rattle.spec_exchange.specs.Effects.{open_row, new_file}
use Rattle.spec_exchange.specs.Effects.{made_attributes}
use Rattle.spec_exchange.specs.State as model
use Rattle.store_files.specs.file_tree.Made.{IsFileReady, Prepared}
use Rattle.store_files.specs.file_tree.Shown.{ShowsFiles}
use Rattle.store_opens.specs.open_table.Rows.{IsOpenNewRow, open_of, parts_of}
use Rattle.store_opens.specs.declared.open_table.row.Row.{Row}
use Rattle.server_checks.specs.declared.tables.Tables.{Tables}
use Rattle.server_effects.specs.declared.making.FileReady.{FileReady}
use Rattle.server_effects.specs.declared.making.FileReady.TheVariants as files
use Rattle.spec_exchange.specs.Files.{file_attributes}

-- the file of a new open: until it is made, the store is prepared for it
abbrev pub FileFor : Tables → model.Server → asks.CreateRequest → Option ℕ → ℕ → FileReady → Type 0
FileFor t s r found now (files.New file) = (found ≡ None) × Prepared t.tree file s r.path (asks_directory r) (made_attributes r) now
FileFor t s r found now (files.Emptied file attributes) = (found ≡ Some file) × (attributes ≡ file_attributes r.attributes)
    × (empties r.disposition ≡ true) × ShowsFiles t.tree s
FileFor t s r found now (files.AsItIs file) = (found ≡ Some file) × (empties r.disposition ≡ false) × ShowsFiles t.tree s

abbrev pub FileRoom : Tables → FileReady → Type 0
FileRoom t (files.New file) = IsFileReady t.tree
FileRoom t _ = Unit {0}

-- the row is the one of the open that is made
pub record RowFor (s : model.Server) (m : model.Message) (r : asks.CreateRequest) (found : Option ℕ) (action : ℕ) (row : Row) : Type 0 where
  pub opened_is : open_of row ≡ open_row s m r (new_file s found) action
  pub session_is : row.session ≡ Some m.session_id
  pub tree_is : row.tree ≡ m.tree_id
  pub sequence_is : row.sequence ≡ m.channel_sequence
  pub is_new : IsOpenNewRow row (parts_of row) row.user
