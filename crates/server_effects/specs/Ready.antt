-- What was made ready of a verdict stands for it.
use Rattle.std.specs.Prelude.{◌≡◌, ℕ, List, min}
use Rattle.spec_exchange.specs.Commands as asks
use Rattle.spec_exchange.specs.Fold.{full_room}
use Rattle.spec_exchange.specs.State as model
use Rattle.spec_exchange.specs.Verdict as verdicts
use Rattle.wire_commands.specs.values.Meaning.{address_of}
use Rattle.store_files.specs.file_tree.Bytes.{CanWrite}
use Rattle.store_files.specs.file_tree.Moved.{Moving}
use Rattle.store_files.specs.file_tree.Shown.{ShowsFiles}
use Rattle.store_opens.specs.open_table.Shown.{ShowsOpens}
use Rattle.server_checks.specs.session_table.Shown.{ShowsSessions}
use Rattle.server_checks.specs.session_table.Steps.{IsNewSession}
use Rattle.server_checks.specs.declared.session_table.row.SessionRow.{SessionRow}
use Rattle.server_checks.specs.declared.tables.Tables.{Tables}
use Rattle.server_effects.specs.declared.changing.ChangeReady.{ChangeReady}
use Rattle.server_effects.specs.declared.changing.ChangeReady.TheVariants as changes

-- the tables show the state but for its files
pub record OthersShown (t : Tables) (s : model.Server) : Type 0 where
  pub opens : ShowsOpens t.opens s
  pub sessions : ShowsSessions t.sessions s
  pub share_is : s.share ≡ t.config.share
  pub room_is : s.room ≡ min t.config.room full_room
  pub encrypts_is : s.encrypts ≡ t.config.encrypts
  pub address_is : s.address ≡ address_of t.config.address
  pub version_is : s.version ≡ t.version
  pub journal_is : s.journal ≡ t.journal

-- ---- a change with its memory

abbrev pub ChangeFor : Tables → model.Server → ℕ → ChangeReady → verdicts.Change → Type 0
ChangeFor t s f (changes.PutBytes new) (verdicts.PutBytes at bytes) = CanWrite t.tree new f at bytes
ChangeFor t s f (changes.PutEnd size) (verdicts.PutEnd n) = size ≡ n
ChangeFor t s f (changes.PutBasic basic) (verdicts.PutBasic b) = basic ≡ b
ChangeFor t s f (changes.PutDeletePending pending) (verdicts.PutDeletePending flag) = pending ≡ flag
ChangeFor t s f (changes.PutPath moved) (verdicts.PutPath replaced path) = Moving t.tree moved s f path
ChangeFor t s f changes.PutNothing verdicts.PutNothing = Unit {0}
ChangeFor t s f _ _ = ⊥

-- the files are shown, unless a renamed one has its new keys already
abbrev pub FilesForChange : Tables → model.Server → ChangeReady → Type 0
FilesForChange t s (changes.PutPath moved) = Unit {0}
FilesForChange t s _ = ShowsFiles t.tree s

-- ---- the row of a session that begins, with its first channel

pub record IsRowFor (row : SessionRow) (m : model.Message) (user : List ℕ) (r : asks.SetupRequest) : Type 0 where
  pub is_new : IsNewSession row m.connection
  pub user_is : row.user ≡ user
  pub client_is : row.client ≡ m.client_guid
  pub cipher_is : row.cipher ≡ r.cipher
  pub signing_is : row.signing ≡ r.signing
