-- A server that was served: its history, its connections, its disk and its nonces go together.
use Rattle.std.specs.Prelude.{◌≡◌, ℕ, ◌+◌, ◌%◌, ◌^◌, ◌≤◌, ◌<◌, List, length, Option, None, Some, slice_get, get_or}
use Rattle.law_records.specs.recovery.Restarted.{Bare}
use Rattle.spec_exchange.specs.State as model
use Rattle.base_outside.specs.streams.Faults.{Rose}
use Rattle.spec_journal.specs.Forms.{StandsFor}
use Rattle.spec_world.specs.Answering.{Seal}
use Rattle.spec_world.specs.Ends.{no_logons}
use Rattle.spec_world.specs.Settings.{ServerSettings}
use Rattle.spec_world.specs.Statements.{IsOneNonce}
use Rattle.server_checks.specs.declared.tables.Config.{Config}
use Rattle.law_snapshots.specs.snapshots.Pieces.{SnapshotPiece}
use Rattle.server_core.specs.Over.{StandsOver, begun_over, opened_over}
use Rattle.server_core.specs.Reading.{SpellOver}
use Rattle.server_core.specs.restart_tables.Restart.{configuration_of}
use Rattle.server_core.specs.declared.server.Server.{Server}
use Rattle.server_core.specs.Shown.{HoldsServerOver, config_of, disk_of, stopped_of}
use Rattle.serve_turns.specs.connection_turns.Serving.{WasServedBy}
use Rattle.serve_turns.specs.declared.event_book.turn.Answer.{Answer}
use Rattle.serve_turns.specs.declared.event_book.turn.Turn.{Turn}
use Rattle.serve_turns.specs.declared.link_serving.ended.ConnEnd.TheVariants as tells
use Rattle.serve_turns.specs.declared.link_serving.ended.Ended.{Ended}
use Rattle.serve_turns.specs.declared.link_serving.ended.Ended.TheVariants.{By}
use Rattle.serve_turns.specs.declared.shared_book.view.Entry.{Entry}
use Rattle.serve_turns.specs.event_book.History.{Course, Off, On, RunsBy, Stand, Standing}
use Rattle.serve_turns.specs.link_serving.Passage.{Passage}
use Rattle.serve_turns.specs.shared_book.Histories.{Replays, entries_of}
use Rattle.serve_command.specs.Guid.{server_guid}
use Rattle.serve_command.specs.Steps.{ServerBook, server_steps}

-- ---- connections

-- One that has ended: its place among the links that were accepted, from 1, its seat's number, what passed over its link, how the
-- connection ended, and what was sealed for it.
pub record EndedConnection : Type 0 where
  pub accept : ℕ
  pub seat : ℕ
  pub passage : Passage
  pub end : Ended
  pub seals : List Seal

-- the number by which the server knows it
abbrev pub number_of : EndedConnection → ℕ
number_of x = x.accept % 2 ^ 32

-- each entry of the history that its seat has, and no other, is a turn of it
abbrev pub WasServed : ServerSettings → Course → List (Entry Turn Answer) → EndedConnection → Type 0
WasServed z h log x = WasServedBy z h (number_of x)
    (entries_of x.seat 0 log) x.passage.came x.passage.wrote x.passage.faults x.passage.faults'
    x.passage.ended x.end x.seals

abbrev pub AllServed : ServerSettings → Course → List (Entry Turn Answer) → List EndedConnection → Type 0
AllServed z h log xs = (i : ℕ) (x : EndedConnection) → slice_get xs i ≡ Some x → WasServed z h log x

-- what passed over the link of each is all that passed over the link of its number
abbrev pub AllPassed : (ℕ → Passage → Type 0) → List EndedConnection → Type 0
AllPassed over xs = (i : ℕ) (x : EndedConnection) → slice_get xs i ≡ Some x → over x.accept x.passage

-- each link is one connection's, and so is each seat
abbrev pub AreApart : List EndedConnection → Type 0
AreApart xs = (i j : ℕ) (x y : EndedConnection) → slice_get xs i ≡ Some x → slice_get xs j ≡ Some y
    → (x.accept ≡ y.accept → i ≡ j) × (x.seat ≡ y.seat → i ≡ j)

-- these are of the first so many links
abbrev pub AreOfFirst : ℕ → List EndedConnection → Type 0
AreOfFirst count xs = (i : ℕ) (x : EndedConnection) → slice_get xs i ≡ Some x → (0 < x.accept) × (x.accept ≤ count)

-- no number comes twice
abbrev pub AreNumbered : List EndedConnection → Type 0
AreNumbered xs = (i j : ℕ) (x y : EndedConnection) → slice_get xs i ≡ Some x → slice_get xs j ≡ Some y → number_of x ≡ number_of y → i ≡ j

-- the turns of one of these are this seat's
pub record HasSeat (xs : List EndedConnection) (seat : ℕ) : Type 0 where
  pub place : ℕ
  pub connection : EndedConnection
  pub here : slice_get xs place ≡ Some connection
  pub seat_is : connection.seat ≡ seat

-- each entry is one of these connections'
abbrev pub AreAll : List (Entry Turn Answer) → List EndedConnection → Type 0
AreAll log xs = (i : ℕ) (e : Entry Turn Answer) → slice_get log i ≡ Some e → HasSeat xs e.seat

-- one of these is of this link, and ended so
pub record HasEndedSo (xs : List EndedConnection) (accept : ℕ) (end : Ended) : Type 0 where
  pub place : ℕ
  pub connection : EndedConnection
  pub here : slice_get xs place ≡ Some connection
  pub accept_is : connection.accept ≡ accept
  pub end_is : connection.end ≡ end

-- the end that is told of a link is that of its connection
abbrev pub AreTold : List (Option Ended) → List EndedConnection → Type 0
AreTold ends xs = (i : ℕ) (end : Ended) → get_or ends i None ≡ Some end → HasEndedSo xs (i + 1) end

-- no two messages that the server sealed have one nonce in one session (MS-SMB2 2.2.41)
abbrev pub AreOnce : List EndedConnection → Type 0
AreOnce xs = (i j p q : ℕ) (x y : EndedConnection) (a b : Seal) → slice_get xs i ≡ Some x → slice_get xs j ≡ Some y
    → slice_get x.seals p ≡ Some a → slice_get y.seals q ≡ Some b → IsOneNonce a b → (i ≡ j) × (p ≡ q)

-- ---- the settings of a server, and what it is before its first event

abbrev pub settings_of : {D : Type 0} → Server D → ServerSettings
settings_of server = record { users = (config_of server).users; guid = server_guid }

-- what a start makes of a snapshot and the records behind it, in a journal of so many bytes; nobody is logged on
abbrev pub first_stand : Config → ℕ → List SnapshotPiece → List model.Record → Stand
first_stand config bytes base records = record {
  server = begun_over (configuration_of config) bytes base records;
  logons = no_logons;
  records = opened_over base records;
}

module _ {D : Type 0} (told : Type 0) (seen : D → List ℕ) (may_leave : D → List ℕ → Type 0) where
  -- a server has just begun so: it shows this, and there is no session
  pub record BeginsAt (server : Server D) (from : Stand) : Type 0 where
    pub base : List SnapshotPiece
    pub holds : HoldsServerOver told seen may_leave base server from.server from.logons from.records
    pub goes_on : stopped_of server ≡ None
    pub bare : Bare from.server

  -- ---- the disk

  -- its bytes stand for a snapshot, the base, and these records behind it, and so does whatever a crash may leave of them; and these for
  -- the state
  pub record DiskStands (disk : D) (base : List SnapshotPiece) (s : model.Server) (records : List model.Record) : Type 0 where
    pub bodies : List (List ℕ)
    pub spelled : SpellOver base bodies records
    pub for_state : StandsOver base records s
    pub stands : StandsFor (seen disk) bodies
    pub stays : (bytes : List ℕ) → may_leave disk bytes → StandsFor bytes bodies

  -- A server that goes on shows what its place found, and its disk, where it tells its bytes, stands for that, by a snapshot and the records
  -- of all events since it was written: a reply that stands in the history stands on the disk.
  pub record OnDisk (book : ServerBook D) (s : Stand) : Type 0 where
    pub base : List SnapshotPiece
    pub holds : HoldsServerOver told seen may_leave base book.server.disk_book.book.server s.server s.logons s.records
    pub goes_on : stopped_of book.server.disk_book.book.server ≡ None
    pub disk : told → DiskStands (disk_of book.server.disk_book.book.server) base s.server s.records

module _ {D : Type 0} (told : Type 0) (seen : D → List ℕ) (may_leave : D → List ℕ → Type 0) (faults : D → ℕ) where
  -- a server stops at its disk's own count of faults
  abbrev pub OnDiskAt : ServerBook D → Standing → Type 0
  OnDiskAt book (On s) = OnDisk told seen may_leave book s
  OnDiskAt book (Off count) = (stopped_of book.server.disk_book.book.server ≡ Some count)
      × (count ≡ faults (disk_of book.server.disk_book.book.server))

  -- The server at each place of the history, from the one that began to the one that was there in the end. Each step is the event's at its
  -- place, with its reply, and what came in front of it. At each place where the server goes on its disk, if it tells its bytes, stands for
  -- what it found; at each behind a stop its count of faults is the one told. The server stops in a turn in which that count rose.
  pub record IsOnDisk (opening : ServerBook D) (log : List (Entry Turn Answer)) (h : Course) (last : ServerBook D) : Type 0 where
    pub books : ℕ → ServerBook D
    pub begins : books 0 ≡ opening
    pub ends : books (length log) ≡ last
    pub steps : (i : ℕ) (e : Entry Turn Answer) → slice_get log i ≡ Some e
        → server_steps told seen may_leave faults (books i) e.event e.reply (books (i + 1))
    pub stands : (i : ℕ) → i ≤ length log → OnDiskAt (books i) (h.found i)
    pub rose : (i : ℕ) (s : Stand) (count : ℕ) → i < length log → h.found i ≡ On s → h.found (i + 1) ≡ Off count
        → Rose (faults (disk_of (books i).server.disk_book.book.server)) count

  -- whoever is told that the server stopped is told the count of faults that its disk has in the end
  abbrev pub StopsAreTold : ServerBook D → List EndedConnection → Type 0
  StopsAreTold last xs = (i : ℕ) (x : EndedConnection) (count : ℕ) → slice_get xs i ≡ Some x → x.end ≡ By (tells.Stopped count)
      → OnDiskAt last (Off count)

  -- ---- the whole

  -- Of the server that began, the history, the connections, and the server that was there in the end: the history runs in the model; each
  -- connection's turns are its seat's entries, and what it wrote are the answers to what came, and that is all that passed over the link of
  -- its number; no entry is anybody else's; there are as many connections as links, each of one of the links; links, seats and numbers are
  -- each one connection's own; of which it is told how they ended, they ended so; at each place where the server goes on its disk, if it
  -- tells its bytes, stands for what it found; a server that stopped is told by its disk's count of faults; and no nonce came twice.
  pub record WasServedWhole (over : ℕ → Passage → Type 0) (count : ℕ) (opening : ServerBook D) (from : Stand) (ends : List (Option Ended))
      (last : ServerBook D)
      : Type 0 where
    pub log : List (Entry Turn Answer)
    pub h : Course
    pub to : Standing
    pub connections : List EndedConnection
    pub replays : Replays (server_steps told seen may_leave faults) opening log last
    pub runs : RunsBy (settings_of opening.server.disk_book.book.server) (On from) log h to
    pub each : AllServed (settings_of opening.server.disk_book.book.server) h log connections
    pub passed : AllPassed over connections
    pub as_many : length connections ≡ count
    pub apart : AreApart connections
    pub of_first : AreOfFirst count connections
    pub numbered : count < 2 ^ 32 → AreNumbered connections
    pub nothing_else : AreAll log connections
    pub told_are : AreTold ends connections
    pub on_disk : IsOnDisk opening log h last
    pub stops_told : StopsAreTold last connections
    pub once : AreOnce connections
