-- What the server makes of the front of what goes up.
use Rattle.std.specs.Prelude.{◌≡◌, ℕ, ◌≤◌, true, List, ◌++◌, length, is_some, Option, Some, None, Result, Ok, Err}
use Rattle.client_steps.specs.declared.whole_client.client.Client.{Client as Core}
use Rattle.conn_core.specs.reply_frames.Replying.{WalkGoes}
use Rattle.conn_core.specs.declared.end.Ended.{Ended}
use Rattle.conn_core.specs.declared.taking.Taken.{Taken}
use Rattle.conn_core.specs.frame_events.Dealing.{taken_records}
use Rattle.conn_core.specs.Shown.{ShowsEnd}
use Rattle.conn_core.specs.declared.conn.Conn.{Conn}
use Rattle.spec_exchange.specs.State as model
use Rattle.server_core.specs.declared.disk_server.book.Book.{Book}
use Rattle.spec_crypto.specs.sessions.Nonces.{last_counter}
use Rattle.base_outside.specs.declared.streams.mem_disk.MemDisk.{MemDisk}
use Rattle.world_ends.specs.memory_server.Held.{WorldHolds, HoldsBook}
use Rattle.spec_world.specs.Connection.{ConnectionStep, connection_step}
use Rattle.spec_world.specs.Ends.{Logons, ServerEnd}
use Rattle.spec_world.specs.Notes.{has_acted}
use Rattle.spec_world.specs.Settings.{ServerSettings}
use Rattle.world_ends.specs.declared.sides.Channel.{Channel}
use Rattle.world_ends.specs.declared.world.Places.{Places}
use Rattle.world_steps.specs.serving.Fronted.{FrontTaken}
use Rattle.world_steps.specs.serving.Noted.{ServeNotesBy}
use Rattle.world_steps.specs.declared.serving.fronts.Front.{Front}
use Rattle.world_steps.specs.declared.serving.hearing.Reply.{Reply}
use Rattle.world_steps.specs.declared.serving.hearing.Served.{Served}
use Rattle.world_steps.specs.Lists.{ChangedAt}

abbrev pub IsServed : Result Taken Ended → Served → Type 0
IsServed (Ok t) s = (s.took ≡ t.took) × (s.acted ≡ t.note.acted) × (s.answer ≡ Some t.bytes)
IsServed (Err e) s = (s.took ≡ e.took) × (s.acted ≡ e.acted) × (s.answer ≡ None)

-- an answer, where the connection goes on
abbrev pub AnswersAs : ℕ → List ℕ → ConnectionStep → Conn → Option (List ℕ) → Type 0
AnswersAs k guid S new None = is_some S.ends ≡ true
AnswersAs k guid S new (Some answer) = WalkGoes k guid S answer new

-- the step is the connection's own, and this server behind it holds what the step leaves
pub record Serves (k : ℕ) (guid : List ℕ) (records : List model.Record) (z : ServerSettings) (S : ConnectionStep)
    (book : Option (Book MemDisk)) (new : Conn) (s : Served) : Type 0 where
  pub acted_is : s.acted ≡ has_acted S.taken
  pub took_is : s.took ≡ is_some S.taken
  pub answer_is : AnswersAs k guid S new s.answer
  pub held : HoldsBook book z.users S.server S.logons (records ++ taken_records S.taken)

-- whatever it held and whatever end the connection showed
abbrev pub ServesAll : Conn → Book MemDisk → ℕ → List ℕ → List ℕ → Conn → Book MemDisk → Served → Type 0
ServesAll conn book now fresh frame new behind s =
    (z : ServerSettings) (v : model.Server) (L : Logons) (records : List model.Record) (f : ServerEnd) →
    WorldHolds book z.users v L records → ShowsEnd conn.id z.guid conn f → f.counter ≤ last_counter →
    Serves conn.id z.guid records z (connection_step z conn.id now fresh v L f frame) (Some behind) new s

abbrev pub ServesBook : Conn → Option (Book MemDisk) → ℕ → List ℕ → List ℕ → Conn → Option (Book MemDisk) → Served → Type 0
ServesBook conn book now fresh frame new behind s =
    (z : ServerSettings) (v : model.Server) (L : Logons) (records : List model.Record) (f : ServerEnd) →
    HoldsBook book z.users v L records → ShowsEnd conn.id z.guid conn f → f.counter ≤ last_counter →
    Serves conn.id z.guid records z (connection_step z conn.id now fresh v L f frame) behind new s

-- its place is noted
pub record ServeNotes (p : Places) (client : Core) (token : ℕ) (conn : Conn) (served : Served) (q : Places) (r : Reply) : Type 0 where
  pub noted : ServeNotesBy served.took client p token served.acted q
  pub conn_is : r.conn ≡ conn
  pub place : r.place ≡ length p.served.items
  pub answer : r.answer ≡ served.answer

pub record ServeHears (book : Option (Book MemDisk)) (p : Places) (client : Core) (front : Front) (now : ℕ) (fresh : List ℕ)
    (new : Option (Book MemDisk)) (q : Places) (r : Reply) : Type 0 where
  pub served : Served
  pub serves : ServesBook front.conn book now fresh front.up.bytes.items r.conn new served
  pub notes : ServeNotes p client front.up.token r.conn served q r

pub record TakesUp (book : Option (Book MemDisk)) (xs : List Channel) (p : Places) (client : Core) (k now : ℕ) (fresh : List ℕ)
    (new : Option (Book MemDisk)) (ys : List Channel) (q : Places) (r : Reply) : Type 0 where
  pub front : Front
  pub taken : ChangedAt (λ x y. FrontTaken x front y) k xs ys
  pub heard : ServeHears book p client front now fresh new q r
