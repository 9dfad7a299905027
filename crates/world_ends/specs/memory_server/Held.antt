-- A server over a disk in memory holds a state of the model, logons, and these records; no call of its disk failed.
use Rattle.std.specs.Prelude.{◌≡◌, ℕ, ◌++◌, List, Option, Some, None, Result, Ok, Err, ⊤}
use Rattle.spec_exchange.specs.State as model
use Rattle.server_core.specs.disk_server.Shown.{ShowsBook}
use Rattle.server_core.specs.declared.disk_server.book.Book.{Book}
use Rattle.server_core.specs.Shown.{stopped_of}
use Rattle.base_outside.specs.declared.streams.mem_disk.MemDisk.{MemDisk}
use Rattle.spec_crypto.specs.tokens.Tokens.{Users}
use Rattle.spec_world.specs.Ends.{Logons}

-- what is told of a disk in memory: all its bytes, and a crash leaves them
abbrev pub world_told : Type 0
world_told = Unit {0}

abbrev pub world_seen : MemDisk → List ℕ
world_seen d = d.bytes

abbrev pub may_leave : MemDisk → List ℕ → Type 0
may_leave d c = c ≡ d.bytes

pub record WorldHolds (b : Book MemDisk) (users : Users) (s : model.Server) (L : Logons) (records : List model.Record) : Type 0 where
  pub held : ShowsBook world_told world_seen may_leave b users s L records
  pub goes_on : stopped_of b.server ≡ None

abbrev pub HoldsBook : Option (Book MemDisk) → Users → model.Server → Logons → List model.Record → Type 0
HoldsBook None users s L records = ⊥
HoldsBook (Some b) users s L records = WorldHolds b users s L records

-- an event without a message: the status of its answer, and the server behind it; of an error nothing is told
abbrev pub HasTold : model.Answer → Book MemDisk → Users → Logons → List model.Record → ℕ → Type 0
HasTold A b users L records status = (status ≡ A.reply.status) × WorldHolds b users A.server L (records ++ A.records)
