-- What a world becomes where its server hears a frame.
use Rattle.std.specs.Prelude.{◌≡◌, ℕ, ◌+◌, List, take, Option, Some, None}
use Rattle.conn_core.specs.declared.conn.Conn.{Conn}
use Rattle.spec_exchange.specs.State.{no_later}
use Rattle.spec_world.specs.Settings.{draw}
use Rattle.world_ends.specs.declared.world.World.{World}
use Rattle.world_steps.specs.serving.Fronted.{FrontGoesOn}
use Rattle.world_steps.specs.serving.Heard.{TakesUp}
use Rattle.world_steps.specs.declared.serving.hearing.Reply.{Reply}
use Rattle.world_steps.specs.Lists.{ChangedAt, ClosesServer}
use Rattle.world_steps.specs.Parts.{Drops}

-- the server has taken the front, with the next draw
pub record ServeTakesFront (x : World) (k : ℕ) (y : World) (r : Reply) : Type 0 where
  pub rest : y ≡ record x { draws = x.draws + 1; book = y.book; channels = y.channels; places = y.places; notes = y.notes }
  pub takes : TakesUp x.book x.channels.items x.places x.client k x.moment (take 8 (draw x.seed x.draws)) y.book y.channels.items y.places r

-- the connection goes on with its answer, a moment later
pub record ServeGoes (x : World) (k : ℕ) (conn : Conn) (place : ℕ) (answer : List ℕ) (y : World) : Type 0 where
  pub mid : World
  pub rest : y ≡ record x { channels = mid.channels; moment = y.moment }
  pub time : y.moment ≡ no_later (x.moment + 1)
  pub channels : ChangedAt (λ u v. FrontGoesOn u conn place answer v) k x.channels.items mid.channels.items

-- or the server hears that it is lost
pub record ServeEnds (x : World) (k : ℕ) (y : World) : Type 0 where
  pub mid : World
  pub rest : y ≡ record x { book = mid.book; channels = mid.channels; moment = y.moment }
  pub time : y.moment ≡ no_later (x.moment + 1)
  pub drops : Drops x.book x.channels.items x.moment k mid.book mid.channels.items

abbrev pub ServeAnswers : Option (List ℕ) → World → ℕ → Conn → ℕ → World → Type 0
ServeAnswers (Some answer) x k conn place y = ServeGoes x k conn place answer y
ServeAnswers None x k conn place y = ServeEnds x k y

-- it has taken the front, and its end there is closed
pub record Absorbs (x : World) (k : ℕ) (y : World) : Type 0 where
  pub mid : World
  pub reply : Reply
  pub takes : ServeTakesFront x k mid reply
  pub rest : y ≡ record mid { channels = y.channels }
  pub closed : ChangedAt ClosesServer k mid.channels.items y.channels.items
