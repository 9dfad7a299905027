-- What a server on a disk does in a turn of one of its connections. In front of the event its journal may be written anew.
use Rattle.std.specs.Prelude.{ℕ, List, Option}
use Rattle.spec_crypto.specs.tokens.Tokens.{Users}
use Rattle.spec_exchange.specs.State as model
use Rattle.spec_world.specs.Ends.{Logons}
use Rattle.serve_turns.specs.event_book.Steps.{EventSteps}
use Rattle.serve_turns.specs.declared.event_book.book.EventBook.{EventBook}
use Rattle.serve_turns.specs.declared.event_book.turn.Answer.{Answer}
use Rattle.serve_turns.specs.declared.event_book.turn.Turn.{Turn}
use Rattle.server_core.specs.disk_server.Shown.{ShowsDisk}
use Rattle.server_core.specs.Shown.{disk_of, stopped_of}
use Rattle.serve_command.specs.declared.lasting_book.book.LastingBook.{LastingBook}

-- the book of such a server
abbrev pub ServerBook : Type 0 → Type 0
ServerBook D = EventBook (LastingBook D)

-- the count of faults at which its disk failed
abbrev pub server_stopped : {D : Type 0} → LastingBook D → Option ℕ
server_stopped b = stopped_of b.disk_book.book.server

-- how often it has failed
abbrev pub server_faults : {D : Type 0} → (D → ℕ) → LastingBook D → ℕ
server_faults faults b = faults (disk_of b.disk_book.book.server)

module _ {D : Type 0} (told : Type 0) (seen : D → List ℕ) (may_leave : D → List ℕ → Type 0) where
  abbrev pub server_shows : LastingBook D → Users → model.Server → Logons → List model.Record → Type 0
  server_shows b users s L records = ShowsDisk told seen may_leave b.disk_book.book users s L records

  abbrev pub server_steps : (D → ℕ) → ServerBook D → Turn → Answer → ServerBook D → Type 0
  server_steps faults = EventSteps server_shows server_stopped (server_faults faults)
