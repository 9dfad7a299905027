-- A frame over a server, where no event found no memory and the server goes on: the connection's own step.
use Rattle.std.specs.Prelude.{◌≡◌, ℕ, Bool, true, false, not, ◌&&◌, is_some, List, ◌++◌, Option, Some, None, Result, Ok, Err, ⊤}
use Rattle.spec_exchange.specs.State as model
use Rattle.spec_world.specs.Settings.{ServerSettings}
use Rattle.spec_world.specs.Ends.{ServerEnd, Logons}
use Rattle.spec_world.specs.Connection.{ConnectionStep, connection_step}
use Rattle.spec_world.specs.Notes as notes
use Rattle.conn_core.specs.declared.conn.Conn.{Conn}
use Rattle.conn_core.specs.declared.end.ConnEnd.{ConnEnd}
use Rattle.conn_core.specs.declared.end.ConnEnd.TheVariants.{Memory, Stopped}
use Rattle.conn_core.specs.served.Serving.{Showing}
use Rattle.conn_core.specs.frame_events.Dealing.{taken_records}
use Rattle.conn_core.specs.reply_frames.Replying.{EndsAs, WalkGoes}
use Rattle.conn_core.specs.declared.end.Ended.{Ended}
use Rattle.conn_core.specs.declared.taking.Taken.{Taken}
use Rattle.conn_core.specs.Taking.{note_of}

abbrev pub goes_by : ConnEnd → Bool
goes_by Memory = false
goes_by (Stopped count) = false
goes_by why = true

abbrev pub is_own_end : Ended → Bool
is_own_end e = not e.lacked && goes_by e.why

abbrev pub is_own_result : Result Taken Ended → Bool
is_own_result (Ok t) = not t.lacked
is_own_result (Err e) = is_own_end e

-- the answer, the connection and the server behind it
pub record IsOwnAnswer (shown : Showing) (k : ℕ) (guid : List ℕ) (records : List model.Record) (new : Conn) (t : Taken)
    (S : ConnectionStep) : Type 0 where
  pub goes : WalkGoes k guid S t.bytes new
  pub note : note_of t.note ≡ notes.note_of_step S
  pub took : t.took ≡ is_some S.taken
  pub state : shown S.server S.logons (records ++ taken_records S.taken)

-- why it ends, and the server behind it
pub record IsOwnEnd (shown : Showing) (records : List model.Record) (e : Ended) (S : ConnectionStep) : Type 0 where
  pub why : EndsAs e.why S.ends
  pub acted : e.acted ≡ notes.has_acted S.taken
  pub took : e.took ≡ is_some S.taken
  pub state : shown S.server S.logons (records ++ taken_records S.taken)

abbrev pub IsOwnBy : Showing → ℕ → List ℕ → List model.Record → Conn → Result Taken Ended → ConnectionStep → Type 0
IsOwnBy shown k guid records new (Ok t) S = IsOwnAnswer shown k guid records new t S
IsOwnBy shown k guid records new (Err e) S = IsOwnEnd shown records e S

abbrev pub TakesOwn : Showing → ServerSettings → ℕ → ℕ → List ℕ → model.Server → Logons → List model.Record → ServerEnd → List ℕ
    → Conn → Option (Result Taken Ended) → Type 0
TakesOwn shown z k now fresh s L records f frame new None = ⊤
TakesOwn shown z k now fresh s L records f frame new (Some r) =
    IsOwnBy shown k z.guid records new r (connection_step z k now fresh s L f frame)
