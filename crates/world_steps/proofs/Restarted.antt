-- The server starts anew.
use Rattle.std.proofs.Common.{◌≡◌, ◌+◌, refl, None}
use Rattle.spec_exchange.specs.Network.{Restart, server_off}
use Rattle.spec_exchange.specs.State.{no_later}
use Rattle.spec_world.specs.Events.{Plain, bytes_happen}
use Rattle.spec_world.specs.Notes.{step_error}
use Rattle.spec_world.specs.Settings.{WorldSettings}
use Rattle.spec_world.specs.World as bytes
use Rattle.spec_world.specs.World.{restarted_wires, server_end_off}
use Rattle.world_ends.specs.Channels.{seen_of}
use Rattle.world_ends.specs.Shown.{ShowsWorld}
use Rattle.world_ends.specs.declared.world.World.{World}
use Rattle.world_steps.specs.Lists.{ClosesServer}
use Rattle.world_steps.specs.Parts.{WorldRestarts}
use Rattle.world_steps.proofs.Closing.{all_changed, server_closed}
use Rattle.world_steps.proofs.Onward.{later_shown}

pub restarts : (z : WorldSettings) (x y : World) (w : bytes.World) → WorldRestarts x.book x.channels.items y.book
    y.channels.items → ShowsWorld z x w
    → ShowsWorld z (record x { book = y.book; channels = y.channels }) (restarted_wires w)
restarts z x y w r h =
    let c = seen_of w.values.client in
    let t = w.values.client.taken in
    record {
      settings = h.settings;
      own = h.own;
      session = h.session;
      server = r.server z.server.users w.values.server w.logons w.values.records h.server;
      moment = h.moment;
      draws = h.draws;
      places = h.places;
      channels = all_changed x.settings x.guid x.keys t c c ClosesServer x.channels.items y.channels.items w.values.conns w.wires server_off
          server_end_off r.channels
          (λ k u v closed shown. server_closed k x.settings x.guid x.keys t c (w.values.conns k) (w.wires k) u v closed shown)
          (λ k b. (b.0, refl, b.2)) h.channels;
    }

-- ---- the event

pub restarted : (z : WorldSettings) (x y v : World) (w : bytes.World) → WorldRestarts x.book x.channels.items y.book y.channels.items
    → v ≡ record (record x { book = y.book; channels = y.channels }) { moment = v.moment } → v.moment ≡ no_later (x.moment + 1)
    → ShowsWorld z x w → (step_error w (Plain Restart) ≡ None) × ShowsWorld z v (bytes_happen z w (Plain Restart))
restarted z x y v w r late time h =
    (refl, later_shown z (record x { book = y.book; channels = y.channels }) v (restarted_wires w) 1 late time (restarts z x y w r h))
