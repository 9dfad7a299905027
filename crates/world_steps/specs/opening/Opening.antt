-- What opens of a connection.
use Rattle.std.specs.Prelude.{◌≡◌, ℕ, ◌+◌, ◌<◌, ◌^◌, ◌==◌, ◌||◌, Bool, true, false, if◌then◌else◌, List, [], ◌∷◌, ◌++◌, length, take}
use Rattle.std.specs.Prelude.{Option, Some, None, is_some, Result, Ok, Err}
use Rattle.client_steps.specs.whole_client.Shown.{ShowsClient}
use Rattle.client_ends.specs.dialog_calls.Opening.{DialogBegins}
use Rattle.client_ends.specs.dialog_calls.Turning.{previous_in}
use Rattle.conn_core.specs.Shown.{ShowsEnd}
use Rattle.spec_exchange.specs.Client.{Client}
use Rattle.spec_exchange.specs.State as model
use Rattle.spec_exchange.specs.Step.{step}
use Rattle.client_ends.specs.declared.ends.config.Bound.{Bound}
use Rattle.client_ends.specs.declared.ends.config.Fresh.{Fresh}
use Rattle.server_core.specs.declared.disk_server.book.Book.{Book}
use Rattle.spec_crypto.specs.declared.sessions.material.Keys.{Keys}
use Rattle.base_outside.specs.declared.streams.mem_disk.MemDisk.{MemDisk}
use Rattle.spec_crypto.specs.tokens.Tokens.{Users}
use Rattle.world_ends.specs.memory_server.Held.{HoldsBook}
use Rattle.spec_world.specs.Ends.{Logons, first_server_end}
use Rattle.spec_world.specs.Notes as notes
use Rattle.spec_world.specs.Notes.{making_error}
use Rattle.spec_world.specs.Settings.{draw}
use Rattle.world_ends.specs.Tests.{is_open}
use Rattle.world_ends.specs.declared.events.WorldError.{WorldError}
use Rattle.world_ends.specs.declared.events.WorldError.TheVariants as errors
use Rattle.world_ends.specs.declared.sides.Channel.{Channel}
use Rattle.world_ends.specs.declared.sides.ClientSide.TheVariants.{Talks}
use Rattle.world_ends.specs.declared.sides.Up.{Up}
use Rattle.world_ends.specs.declared.world.World.{World}
use Rattle.world_steps.specs.opening.Putting.{Becomes}
use Rattle.world_steps.specs.declared.opening.beginning.Begun.{Begun}
use Rattle.world_steps.specs.Lists.{ChangedAt}
use Rattle.world_steps.specs.Parts.{BookTold}

-- ---- why it can't be opened

abbrev pub opening_refusal : Option Channel → Option ℕ → ℕ → Option notes.WorldError
opening_refusal None making k = Some (notes.NoChannel k)
opening_refusal (Some c) making k = if is_open c.client || is_some c.server then Some (notes.InUse k) else making_error making

-- it is told, where there is one
abbrev pub IsOpeningDue : Option notes.WorldError → Result Unit WorldError → Type 0
IsOpeningDue due (Ok u) = due ≡ None
IsOpeningDue due (Err errors.Memory) = ⊥
IsOpeningDue due (Err (errors.NoChannel k)) = due ≡ Some (notes.NoChannel k)
IsOpeningDue due (Err (errors.NothingThere k)) = due ≡ Some (notes.NothingThere k)
IsOpeningDue due (Err (errors.InUse k)) = due ≡ Some (notes.InUse k)

-- ---- both ends are made

-- the client's three draws
pub record IsFresh (seed : List ℕ) (first : ℕ) (f : Fresh) : Type 0 where
  pub salt : f.salt ≡ draw seed first
  pub challenge : f.challenge ≡ take 8 (draw seed (first + 1))
  pub key : f.key ≡ take 16 (draw seed (first + 2))

-- the session that a channel is bound to is the one that is live
abbrev pub IsBoundOf : Keys → Client → Option Bound → Type 0
IsBoundOf keys c None = c.live ≡ false
IsBoundOf keys c (Some b) = (c.live ≡ true) × (b.session ≡ c.session) × (b.tree ≡ c.tree) × (b.keys ≡ keys)

pub record OpeningMakes (x : World) (k : ℕ) (b : Begun) : Type 0 where
  pub fresh : Fresh
  pub drawn : IsFresh x.seed x.draws fresh
  pub bound : Option Bound
  pub live : (c : Client) → ShowsClient x.client c → IsBoundOf x.keys c bound
  -- and it has channels already
  pub counted : is_some bound ≡ true → 0 < x.numbers
  pub begins : DialogBegins x.settings fresh (previous_in bound x.accepted) bound b.dialog b.greeting
  pub conn : ShowsEnd k x.guid b.conn (first_server_end (draw x.seed (x.draws + 3)))

-- ---- and stand on their connection

-- a frame more goes up
pub record IsOpeningSaid (us : List Up) (token : ℕ) (frame : List ℕ) (vs : List Up) : Type 0 where
  pub said : Up
  pub list : vs ≡ us ++ said ∷ []
  pub token_is : said.token ≡ token
  pub bytes : said.bytes.items ≡ frame
  pub short : length frame < 2 ^ 60

abbrev pub SaysFirst : Bool → List ℕ → List Up → Type 0
SaysFirst true greeting us = IsOpeningSaid [] 0 greeting us
SaysFirst false greeting us = us ≡ []

pub record IsOpened (served : Bool) (b : Begun) (x : Channel) : Type 0 where
  pub client : x.client ≡ Talks b.dialog
  pub server : x.server ≡ (if served then Some b.conn else None)
  pub up : SaysFirst served b.greeting x.up.items
  pub down : x.down.items ≡ []

pub record OpeningStands (served : Bool) (b : Begun) (k : ℕ) (xs ys : List Channel) : Type 0 where
  pub channel : Channel
  pub opened : IsOpened served b channel
  pub placed : ChangedAt (Becomes channel) k xs ys

pub record OpeningEnters (old : Option (Book MemDisk)) (xs : List Channel) (moment k : ℕ) (b : Begun) (new : Option (Book MemDisk))
    (ys : List Channel) : Type 0 where
  pub status : ℕ
  pub stands : OpeningStands (status == 0) b k xs ys
  pub server : (users : Users) (s : model.Server) (L : Logons) (records : List model.Record) → HoldsBook old users s L records
      → BookTold (step s moment (model.Accept k)) new users L records status
