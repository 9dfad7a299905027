-- What the parts of a step leave.
use Rattle.std.specs.Prelude.{◌≡◌, ℕ, Bool, true, false, ◌++◌, ◌∷◌, [], List, length, slice_get, if◌then◌else◌, nat_lt, Option, None}
use Rattle.client_steps.specs.whole_client.Shown.{ShowsClient}
use Rattle.client_steps.specs.declared.whole_client.client.Client.{Client as Core}
use Rattle.client_events.specs.event_calls.Events.{ClientEventTells, act_of}
use Rattle.client_events.specs.declared.event_calls.steps.Act.{Act as Told}
use Rattle.client_events.specs.declared.event_calls.steps.Event.TheVariants as happens
use Rattle.client_events.specs.played_client.Holding.{PlayedSteps as Happens}
use Rattle.spec_exchange.specs.Client.{Client, unmade}
use Rattle.spec_exchange.specs.ClientStep.{Act, CloseChannels}
use Rattle.spec_exchange.specs.Fold.{recovered_from, recovery_records}
use Rattle.spec_exchange.specs.State as model
use Rattle.spec_exchange.specs.Step.{step}
use Rattle.client_values.specs.declared.operations.values.OpKind.{OpKind}
use Rattle.spec_crypto.specs.tokens.Tokens.{Users}
use Rattle.world_ends.specs.memory_server.Held.{HoldsBook}
use Rattle.server_core.specs.declared.disk_server.book.Book.{Book}
use Rattle.base_outside.specs.declared.streams.mem_disk.MemDisk.{MemDisk}
use Rattle.spec_world.specs.Ends.{Logons}
use Rattle.world_ends.specs.Tests.{readied_in}
use Rattle.world_steps.specs.Lists.{ChangedAll, ChangedAt, ClosesClient, ClosesServer}
use Rattle.world_ends.specs.Places.{no_marks}
use Rattle.world_ends.specs.declared.events.WorldError.{WorldError}
use Rattle.world_ends.specs.declared.events.WorldError.TheVariants as errors
use Rattle.world_ends.specs.declared.sides.Channel.{Channel}
use Rattle.world_ends.specs.declared.world.Places.{Places}

-- memory ran out
abbrev pub IsWorldMemory : WorldError → Type 0
IsWorldMemory e = e ≡ errors.Memory

-- each of so many operations has marks, where there was one less at most
pub record Marked (old : Places) (taken : ℕ) (new : Places) : Type 0 where
  pub served : new.served.items ≡ old.served.items
  pub marks : new.marks.items ≡ (if nat_lt taken (length old.marks.items) then old.marks.items else old.marks.items ++ no_marks ∷ [])

-- ---- the server hears of an event without a message

abbrev pub BookTold : model.Answer → Option (Book MemDisk) → Users → Logons → List model.Record → ℕ → Type 0
BookTold A book users L records status = (status ≡ A.reply.status) × HoldsBook book users A.server L (records ++ A.records)

pub record Drops (old : Option (Book MemDisk)) (xs : List Channel) (moment k : ℕ) (new : Option (Book MemDisk)) (ys : List Channel)
    : Type 0 where
  pub channels : ChangedAt ClosesServer k xs ys
  pub server : (users : Users) (s : model.Server) (L : Logons) (records : List model.Record) → HoldsBook old users s L records
      → HoldsBook new users (step s moment (model.End k)).server L (records ++ (step s moment (model.End k)).records)

pub record WorldRestarts (old : Option (Book MemDisk)) (xs : List Channel) (new : Option (Book MemDisk)) (ys : List Channel) : Type 0 where
  pub channels : ChangedAll ClosesServer xs ys
  pub server : (users : Users) (s : model.Server) (L : Logons) (records : List model.Record) → HoldsBook old users s L records
      → HoldsBook new users (recovered_from s records) L (records ++ recovery_records records)

-- ---- the client takes an operation, or doesn't

pub record WorldTakes (old : Core) (p : Places) (g : ℕ) (kind : OpKind) (new : Core) (q : Places) : Type 0 where
  pub shown : Happens old new (happens.Submit g kind)
  pub marked : (c : Client) → ShowsClient new c → Marked p c.taken q

-- ---- the client's end of one connection closes, or of each

abbrev pub all_close : Act → Bool
all_close CloseChannels = true
all_close _ = false

abbrev pub ClosedBy : Option ℕ → List Channel → ℕ → Bool → Option ℕ → List Channel → Type 0
ClosedBy old xs k true new ys = (new ≡ None) × ChangedAll ClosesClient xs ys
ClosedBy old xs k false new ys = (new ≡ old) × ChangedAt ClosesClient k xs ys

-- a ready channel is cut
pub record CutsLine (old : Core) (made : Option ℕ) (xs : List Channel) (k channel : ℕ) (new : Core) (making : Option ℕ)
    (ys : List Channel) : Type 0 where
  pub told : Told
  pub shown : Happens old new (happens.Cut channel)
  pub tells : ClientEventTells old (happens.Cut channel) told
  pub closed : ClosedBy made xs k (all_close (act_of told)) making ys

-- any channel is
pub record WorldLeaves (old : Core) (made : Option ℕ) (xs : List Channel) (k : ℕ) (new : Core) (making : Option ℕ) (ys : List Channel)
    : Type 0 where
  pub client : new ≡ old
  pub making_is : making ≡ unmade k made
  pub channels : ChangedAt ClosesClient k xs ys

abbrev pub CutsBy : Bool → Core → Option ℕ → List Channel → ℕ → Core → Option ℕ → List Channel → Type 0
CutsBy true old made xs k new making ys = CutsLine old made xs k k new making ys
CutsBy false old made xs k new making ys = WorldLeaves old made xs k new making ys

abbrev pub Cuts : Core → Option ℕ → List Channel → ℕ → Core → Option ℕ → List Channel → Type 0
Cuts old made xs k new making ys = CutsBy (readied_in (slice_get xs k)) old made xs k new making ys
