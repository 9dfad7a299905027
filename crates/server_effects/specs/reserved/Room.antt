-- The tables with all that an effect wants.
use Rattle.std.specs.Prelude.{◌≡◌, ◌<◌, ℕ, ⊤}
use Rattle.spec_exchange.specs.CheckOpen.{file_of}
use Rattle.spec_exchange.specs.Effects.{change_acts, opens_of_tree}
use Rattle.spec_exchange.specs.State as model
use Rattle.store_files.specs.file_tree.Shown.{ShowsFiles}
use Rattle.store_opens.specs.open_table.Shown.{HasResultRoom, HasOpensRoom, HasRoomIn, HasOpensSessionRoom, next_of}
use Rattle.server_checks.specs.session_table.Shown as sessions
use Rattle.server_checks.specs.verdicts.Views.{create_in}
use Rattle.server_checks.specs.declared.tables.Tables.{Tables}
use Rattle.server_checks.specs.event_heard.Heard.{setup_in}
use Rattle.server_effects.specs.Making.{FileFor, FileRoom, RowFor}
use Rattle.server_effects.specs.Ready.{ChangeFor, FilesForChange, IsRowFor, OthersShown}
use Rattle.server_effects.specs.reserved.Readied.{reserved_changed, found_of}
use Rattle.server_effects.specs.declared.reserved.ready.Ready.{Ready}
use Rattle.server_effects.specs.declared.reserved.ready.Ready.TheVariants as readies
use Rattle.server_effects.specs.declared.reserved.ready.SetupReady.{SetupReady}
use Rattle.server_effects.specs.declared.reserved.ready.SetupReady.TheVariants as steps

-- ---- what was made ready stands for its verdict

abbrev pub StepStands : model.Message → SetupReady → Type 0
StepStands m (steps.Begin session row token previous quiet) = IsRowFor row m row.user (setup_in m.command)
StepStands m _ = ⊤

abbrev pub ReservedStands : Tables → model.Server → model.Message → ℕ → Ready → Type 0
ReservedStands t s m now (readies.Make file row) = FileFor t s (create_in m.command) (found_of file) now file
    × RowFor s m (create_in m.command) (found_of file) row.action row
ReservedStands t s m now (readies.Alter id change body acts) = ChangeFor t s (file_of s id) change (reserved_changed m.command change)
    × (acts ≡ change_acts s (file_of s id) now (reserved_changed m.command change))
ReservedStands t s m now (readies.Setup step) = StepStands m step
ReservedStands t s m now (readies.DropTree opens) = opens.items ≡ opens_of_tree s m.session_id m.tree_id
ReservedStands t s m now _ = ⊤

-- the files are shown, unless one that is made or renamed has its path already
abbrev pub FilesReady : Tables → model.Server → Ready → Type 0
FilesReady t s (readies.Make file row) = ⊤
FilesReady t s (readies.Alter id change body acts) = FilesForChange t s change
FilesReady t s _ = ShowsFiles t.tree s

pub record IsReadied (t : Tables) (s : model.Server) (m : model.Message) (now : ℕ) (r : Ready) : Type 0 where
  pub others : OthersShown t s
  pub files : FilesReady t s r
  pub stands : ReservedStands t s m now r

-- ---- the room, which needs no state

abbrev pub StepRoom : Tables → ℕ → SetupReady → Type 0
StepRoom t k (steps.Challenge list acceptor token) = sessions.HasLink t.sessions k × (t.sessions.given < 0xffff_ffff)
StepRoom t k (steps.ChallengeBinding session list acceptor token) = sessions.HasLink t.sessions k
StepRoom t k (steps.Begin session row token previous quiet) = sessions.HasSessionRoom t.sessions × sessions.HasLink t.sessions k
StepRoom t k (steps.Join session keys token) = sessions.HasLink t.sessions k × sessions.HasChannelRoom t.sessions session

-- of a message of this session on this connection
abbrev pub RoomFor : Tables → ℕ → ℕ → Ready → Type 0
RoomFor t x k (readies.KeepRefusal guid status) = HasResultRoom t.opens x
RoomFor t x k (readies.Repeat id) = HasOpensSessionRoom t.opens x id
RoomFor t x k (readies.Attach id) = HasOpensSessionRoom t.opens x id
RoomFor t x k (readies.Make file row) = FileRoom t file × HasOpensRoom t.opens × HasRoomIn t.opens row.session
    (next_of t.opens) row.persistent
    × (t.opens.given < 0xffff_ffff)
RoomFor t x k (readies.Setup step) = StepRoom t k step
RoomFor t x k (readies.AddTree pipes) = sessions.HasTreeRoom t.sessions x
RoomFor t x k _ = ⊤
