-- How the command ends once it has settings, by what befell the disk, the net and the connections.
use Rattle.std.specs.Prelude.{◌≡◌, ◌⊎◌, ℕ, ◌+◌, ◌%◌, ◌^◌, ◌<◌, ◌==◌, nat_lt, Bool, true, false, ◌&&◌, ◌||◌, List, [], ◌∷◌, length, is_some}
use Rattle.std.specs.Prelude.{Option, Some, None}
use Rattle.serve_turns.specs.connection_turns.Serving as turns
use Rattle.serve_turns.specs.declared.event_book.turn.Answer.{Answer}
use Rattle.serve_turns.specs.declared.event_book.turn.Turn.{Turn}
use Rattle.serve_turns.specs.link_threads.Accepted.{AreAccepted}
use Rattle.serve_turns.specs.link_threads.Covering.{HaveEnds}
use Rattle.serve_turns.specs.declared.link_threads.links.Halt.{Halt}
use Rattle.serve_turns.specs.declared.link_threads.links.Halt.TheVariants as halts
use Rattle.journal.specs.declared.disk_journal.journal.JournalError.{JournalError}
use Rattle.serve_command.specs.declared.server_settings.words.Bound.{Bound}
use Rattle.serve_command.specs.declared.server_settings.words.Said.{Said}
use Rattle.serve_command.specs.Guid.{server_guid}
use Rattle.serve_command.specs.Steps.{ServerBook, server_steps}
use Rattle.serve_command.specs.Whole.{WasServedWhole, first_stand}
use Rattle.serve_turns.specs.event_book.History.{Stand}
use Rattle.server_core.specs.server_start.Begun.{ServerBegins}
use Rattle.server_checks.specs.declared.tables.Config.{Config}
use Rattle.server_core.specs.Shown.{config_of, disk_of, state_of, stopped_of}
use Rattle.server_core.specs.declared.server.Server.{Server}
use Rattle.serve_turns.specs.link_serving.Lines.{ended_lines}
use Rattle.serve_turns.specs.link_serving.Passage.{Passage, ServesOver}
use Rattle.serve_turns.specs.link_serving.Serving.{AreAllServed}
use Rattle.serve_turns.specs.declared.link_serving.ended.Ended.{Ended}
use Rattle.serve_turns.specs.shared_book.Seats.{Closes}
use Rattle.serve_turns.specs.declared.shared_book.view.View.{View}
use Rattle.base_outside.specs.streams.Faults.{Rose}
use Rattle.base_outside.specs.declared.streams.address.Address.{Address}
use Rattle.serve_command.specs.Opening.{IsUnbegun}
use Rattle.serve_command.specs.Printing.{IsQuiet, PrintsIfRoom}
use Rattle.serve_command.specs.declared.ending.Ending.{Ending}
use Rattle.serve_command.specs.declared.ending.Ending.TheVariants.{DiskFailed, Done, Memory, NetFailed}

-- ---- how many connections there are

-- of how many it is told how they ended
abbrev pub serving_listed : Option Bound → ℕ
serving_listed None = 0
serving_listed (Some bound) = bound.count

-- how many are accepted: without a count as many as have numbers of their own
abbrev pub serving_accepted : Option Bound → ℕ
serving_accepted None = 4294967295
serving_accepted (Some bound) = bound.count

-- As many were accepted as the words say, and of each it is told how it ended; without a count as many as have numbers. A net's count of
-- links that it accepted, before and behind, stands still at 2^64 - 1.
abbrev pub AllEnded : Option Bound → List (Option Ended) → (links links' : ℕ) → Type 0
AllEnded None ends links links' = links + 4294967295 < 2 ^ 64 → links' ≡ links + 4294967295
AllEnded (Some bound) ends links links' =
    (length ends ≡ bound.count) × HaveEnds bound.count ends × (links + bound.count < 2 ^ 64 → links' ≡ links + bound.count)

-- ---- what is told of the connections

-- how the first links ended, up to one of which no end is told
abbrev pub front_of : List (Option Ended) → List Ended
front_of [] = []
front_of (None ∷ more) = []
front_of (Some end ∷ more) = end ∷ front_of more

module _ (written written' : Option (List ℕ)) (sink sink' : ℕ) where
  -- the lines that the level lets through, where the words say one
  abbrev pub Lists : Option Bound → List (Option Ended) → Ending → Type 0
  Lists None ends ending = IsQuiet written written' sink sink' Done ending
  Lists (Some bound) ends ending = PrintsIfRoom written written' sink sink' (ended_lines bound.level 1 (front_of ends)) Done ending

  -- by why no further link was accepted
  abbrev pub Tells : Option Bound → Halt → List (Option Ended) → Ending → Type 0
  Tells bound halts.Count ends ending = Lists bound ends ending
  Tells bound halts.NetFault ends ending = IsQuiet written written' sink sink' NetFailed ending
  Tells bound halts.Ended ends ending = IsQuiet written written' sink sink' Memory ending
  Tells bound halts.Memory ends ending = IsQuiet written written' sink sink' Memory ending

-- ---- the disk behind the last turn

-- a count rose, or stands at its last value
abbrev pub has_risen : ℕ → ℕ → Bool
has_risen old new = nat_lt old new || new == 18446744073709551615

-- the server takes nothing more
abbrev pub has_stopped : {D : Type 0} → ServerBook D → Bool
has_stopped last = is_some (stopped_of last.server.disk_book.book.server)

module _ (written written' : Option (List ℕ)) (sink sink' : ℕ) where
  -- By whether the server stopped, and whether the count of faults of its disk rose: that the disk failed goes before all else. Nothing is
  -- told of a server that stopped where the count isn't above what it was before the start.
  abbrev pub Behind : Option Bound → Halt → List (Option Ended) → (stopped risen : Bool) → Ending → Type 0
  Behind bound halt ends true true ending = IsQuiet written written' sink sink' DiskFailed ending
  Behind bound halt ends true false ending = IsQuiet written written' sink sink' Memory ending
  Behind bound halt ends false risen ending = Tells written written' sink sink' bound halt ends ending

-- ---- a server that began

module _ {B : Type 0} where
  -- the link of this number was served by a seat of the book, and ended so; this passed over it
  abbrev pub serves_link : ℕ → Passage → View B Turn Answer → Ended → View B Turn Answer → Type 0
  serves_link number passed from end to = turns.Serves server_guid (number % 2 ^ 32) passed from end to

  -- Links below a count were served so, and none is being served: each by a seat of its own, which this seat took in with its number and
  -- all its entries. Of what passed over each, and its number, this holds. Of some it is told how they ended.
  abbrev pub AreServedBy : (ℕ → Passage → Type 0) → ℕ → View B Turn Answer → List (Option Ended) → Type 0
  AreServedBy over count view ends = AreAllServed (ServesOver over serves_link) count ends view

-- a seat of a book that opens with this server
pub record ServingOpens {D : Type 0} (server : Server D) (view : View (ServerBook D) Turn Answer) : Type 0 where
  pub opening : ServerBook D
  pub begins : opening.server.disk_book.book.server ≡ server
  pub is : view.opening ≡ Some opening

-- Of a net it is told how many links it accepted, what their peers send, if links of its kind tell that, and of two of its states what is
-- all that passed over the link of a number that it accepted between them.
module _ {D N : Type 0} (told : Type 0) (seen : D → List ℕ) (may_leave : D → List ℕ → Type 0) (faults : D → ℕ)
    (listens_at : N → Option Address) (links : N → ℕ) (net_faults : N → ℕ) (link_told : Type 0) (sent : N → List (List ℕ))
    (over : (net net' : N) → ℕ → Passage → Type 0) where
  -- Links were served, each by a seat of one book, whose history leads from the server that began, and stood there then, to the one that
  -- was there in the end. They are all that the net accepted, but for one that was let go at once. The disk is that of the last server. The
  -- net listens where it did. Where it ended with 0 the server goes on, and as many links were accepted as the words say, and of each an
  -- end is told, or as many as have numbers. The connection of each number was on the link of that number which the net accepted meanwhile.
  pub record HasServed (before : ℕ) (bound : Option Bound) (server : Server D) (from : Stand) (written written' : Option (List ℕ))
      (sink sink' : ℕ)
      (net net' : N) (disk' : Option D) (ending : Ending) : Type 0 where
    pub view : View (ServerBook D) Turn Answer
    pub opens : ServingOpens server view
    pub halt : Halt
    pub ends : List (Option Ended)
    pub last : ServerBook D
    pub net_failed : halt ≡ halts.NetFault → Rose (net_faults net) (net_faults net')
    pub listens : listens_at net' ≡ listens_at net
    pub links_served : ℕ
    pub accepted : AreAccepted (serving_accepted bound) links_served halt (links net) (links net')
    pub served : AreServedBy (over net net') links_served view ends
    pub closes : Closes (server_steps told seen may_leave faults) view last
    pub disk_is : disk' ≡ Some (disk_of last.server.disk_book.book.server)
    pub rose : (has_stopped last && has_risen before (faults (disk_of last.server.disk_book.book.server))) ≡ true
        → Rose before (faults (disk_of last.server.disk_book.book.server))
    pub counted : ending ≡ Done → AllEnded bound ends (links net) (links net')
    pub goes_on : ending ≡ Done → stopped_of last.server.disk_book.book.server ≡ None
    pub whole : WasServedWhole told seen may_leave faults (over net net') links_served opens.opening from ends last
    pub tells : Behind written written' sink sink' bound halt ends (has_stopped last)
        (has_risen before (faults (disk_of last.server.disk_book.book.server))) ending

  -- a net listens
  abbrev pub ServesOn : ℕ → Option Bound → Server D → Stand → (written written' : Option (List ℕ)) → (sink sink' : ℕ) → (net net' : N)
      → Option D
      → Ending → Type 0
  ServesOn before bound server from written written' sink sink' net net' disk' ending =
      (IsQuiet written written' sink sink' Memory ending × (net' ≡ net) × (disk' ≡ None))
      ⊎ HasServed before bound server from written written' sink sink' net net' disk' ending

  -- It was told to listen at an address, which may fail: only where the net's count of faults rose. Then the disk is given back, and the
  -- net listens where it did and accepted nothing.
  abbrev pub Serves : ℕ → Address → Option Bound → Server D → Stand → (written written' : Option (List ℕ)) → (sink sink' : ℕ) →
      (net net' : N)
      → Option D → Ending → Type 0
  Serves before at bound server from written written' sink sink' net net' disk' ending =
      (Rose (net_faults net) (net_faults net') × IsQuiet written written' sink sink' NetFailed ending
      × (listens_at net' ≡ listens_at net) × (links net' ≡ links net) × (link_told → sent net' ≡ sent net)
      × (disk' ≡ Some (disk_of server)))
      ⊎ ((ready : N) × (listens_at ready ≡ Some at) × (links ready ≡ links net) × (net_faults ready ≡ net_faults net)
      × (link_told → sent ready ≡ sent net)
      × ServesOn before bound server from written written' sink sink' ready net' disk' ending)

module _ {N : Type 0} (listens_at : N → Option Address) (links : N → ℕ) (net_faults : N → ℕ) (link_told : Type 0)
    (sent : N → List (List ℕ)) where
  -- it was told at most what no count and no place of a net shows
  abbrev pub IsNetUnused : (net net' : N) → Type 0
  IsNetUnused net net' = (listens_at net' ≡ listens_at net) × (links net' ≡ links net) × (net_faults net' ≡ net_faults net)
      × (link_told → sent net' ≡ sent net)

-- Of a disk it is told why a start on it is refused, and how that leaves it.
module _ {D N : Type 0} (told : Type 0) (seen : D → List ℕ) (may_leave : D → List ℕ → Type 0) (faults : D → ℕ)
    (listens_at : N → Option Address) (links : N → ℕ) (net_faults : N → ℕ) (link_told : Type 0) (sent : N → List (List ℕ))
    (over : (net net' : N) → ℕ → Passage → Type 0) (refuses : (disk left : D) → JournalError → Type 0) where
  -- The disk refuses, by its cause, and is given back, and the net isn't used; or a server began on what the disk holds, with this
  -- configuration.
  abbrev pub Starts : Said → Config → D → (written written' : Option (List ℕ)) → (sink sink' : ℕ) → (net net' : N) → Option D → Ending
      → Type 0
  Starts said config disk written written' sink sink' net net' disk' ending =
      ((error : JournalError) × (left : D) × refuses disk left error × IsUnbegun written written' sink sink' error ending
      × IsNetUnused listens_at links net_faults link_told sent net net' × (disk' ≡ Some left))
      ⊎ ((server : Server D) × (begins : ServerBegins told seen may_leave faults config disk (state_of server))
      × (config_of server ≡ config)
      × Serves told seen may_leave faults listens_at links net_faults link_told sent over (faults disk) said.address said.bound server
      (first_stand config begins.2 begins.4 begins.3) written written' sink sink' net net' disk' ending)
