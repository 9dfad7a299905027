-- A world whose connections are these, but for one that hears.
use Rattle.std.proofs.Common.{◌≡◌, ℕ, List, set, slice_get, Some, sym, subst}
use Rattle.spec_exchange.specs.Network.{Received, take_front}
use Rattle.world_ends.specs.memory_server.Held.{HoldsBook}
use Rattle.spec_world.specs.Settings.{WorldSettings}
use Rattle.spec_world.specs.World as bytes
use Rattle.spec_world.specs.World.{behind_frame}
use Rattle.world_ends.specs.Channels.{ShowsChannel, ShowsChannels, seen_of}
use Rattle.world_ends.specs.Places.{ChannelShowsPlaces}
use Rattle.world_ends.specs.Settings.{IsSetBy}
use Rattle.world_ends.specs.Shown.{ShowsOwn, WorldShowsSession, ShowsWorld}
use Rattle.world_ends.specs.declared.sides.Channel.{Channel}
use Rattle.world_ends.specs.declared.world.World.{World}
use Rattle.world_steps.specs.opening.Putting.{Becomes}
use Rattle.world_steps.specs.declared.dialogs.fronting.Talk.{Talk}
use Rattle.world_steps.proofs.dialogs.Near.{set_becomes}
use Rattle.world_steps.proofs.dialogs.Popped.{facing}
use Rattle.world_steps.proofs.Closing.{one_changed}

-- as `ShowsWorld`, with these connections
pub record Faces (z : WorldSettings) (x : World) (xs : List Channel) (w : bytes.World) : Type 0 where
  pub settings : IsSetBy z x.settings x.guid x.seed x.salt
  pub own : ShowsOwn z x.client x.accepted x.making w.values.client
  pub session : WorldShowsSession x.keys x.encrypts x.numbers w.keys w.encrypts w.numbers
  pub server : HoldsBook x.book z.server.users w.values.server w.logons w.values.records
  pub moment : w.values.moment ≡ x.moment
  pub draws : w.draws ≡ x.draws
  pub places : ChannelShowsPlaces x.places w.values.client.taken w.values.client.settled_by w.values.log.places w.values.log.who
      w.values.log.first w.values.log.birth
  pub channels : ShowsChannels x.settings x.guid x.keys w.values.client.taken (seen_of w.values.client) w.values.conns w.wires xs

pub faces : (z : WorldSettings) (x : World) (w : bytes.World) (k : ℕ) (c : Channel) (t : Talk) (frames : List (List ℕ))
    (replies : List Received)
    → slice_get x.channels.items k ≡ Some c
    → (ShowsChannel k x.settings x.guid x.keys w.values.client.taken (seen_of w.values.client) (w.values.conns k) (w.wires k) c
    → ShowsChannel k x.settings x.guid x.keys w.values.client.taken (seen_of w.values.client) (take_front (w.values.conns k) replies)
    (record (w.wires k) { down = frames }) (facing t.dialog t.rest)) → ShowsWorld z x w
    → Faces z x (set x.channels.items k (facing t.dialog t.rest)) (behind_frame w k frames replies)
faces z x w k c t frames replies there pops h =
    let s = seen_of w.values.client in
    let p = facing t.dialog t.rest in
    record {
      settings = h.settings;
      own = h.own;
      session = h.session;
      server = h.server;
      moment = h.moment;
      draws = h.draws;
      places = h.places;
      channels = one_changed x.settings x.guid x.keys w.values.client.taken s s (Becomes p) k x.channels.items (set x.channels.items k p)
          w.values.conns w.wires (take_front (w.values.conns k) replies) (record (w.wires k) { down = frames }) c
          (set_becomes k x.channels.items p) there
          (λ v becomes shown. subst (λ (q : Channel). ShowsChannel k x.settings x.guid x.keys w.values.client.taken s
          (take_front (w.values.conns k) replies) (record (w.wires k) { down = frames }) q) (sym becomes) (pops shown))
          (λ j v other shown. shown) (λ j other ready. ready) h.channels;
    }
