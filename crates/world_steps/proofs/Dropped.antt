-- The server ends a connection.
use Rattle.std.proofs.Common.{◌≡◌, ℕ, ◌+◌, ◌++◌, Bool, true, false, if◌then◌else◌, sym, ap, subst, ◌∙◌, slice_get, Some, None}
use Rattle.spec_exchange.specs.Network.{Drop, server_off}
use Rattle.spec_exchange.specs.State.{End, no_later}
use Rattle.spec_exchange.specs.Step.{step}
use Rattle.world_ends.specs.memory_server.Held.{HoldsBook}
use Rattle.spec_world.specs.Events.{Plain, bytes_happen, bytes_later}
use Rattle.spec_world.specs.Notes as notes
use Rattle.spec_world.specs.Notes.{step_error, unless_open}
use Rattle.spec_world.specs.Settings.{WorldSettings}
use Rattle.spec_world.specs.World as bytes
use Rattle.spec_world.specs.World.{dropped_wires, server_end_off}
use Rattle.world_ends.specs.Channels.{seen_of}
use Rattle.world_ends.specs.Shown.{ShowsWorld}
use Rattle.world_ends.specs.Tests.{served_in}
use Rattle.world_ends.specs.declared.world.World.{World}
use Rattle.world_steps.specs.Lists.{ClosesServer}
use Rattle.world_steps.specs.Parts.{Drops}
use Rattle.world_steps.proofs.Closing.{is_served, one_changed, served_one, server_closed}
use Rattle.world_steps.proofs.Onward.{later_shown}

pub drops : (z : WorldSettings) (x y : World) (w : bytes.World) (k : ℕ) → Drops x.book x.channels.items x.moment k y.book y.channels.items
    → served_in (slice_get x.channels.items k) ≡ true
    → ShowsWorld z x w → ShowsWorld z (record x { book = y.book; channels = y.channels }) (dropped_wires w k)
drops z x y w k r there h =
    let c = seen_of w.values.client in
    let one = served_one x.channels.items k there in
    record {
      settings = h.settings;
      own = h.own;
      session = h.session;
      server = subst (λ (m : ℕ). HoldsBook y.book z.server.users (step w.values.server m (End k)).server w.logons
          (w.values.records ++ (step w.values.server m (End k)).records)) (sym h.moment)
          (r.server z.server.users w.values.server w.logons w.values.records h.server);
      moment = h.moment;
      draws = h.draws;
      places = h.places;
      channels = one_changed x.settings x.guid x.keys w.values.client.taken c c ClosesServer k x.channels.items y.channels.items
          w.values.conns w.wires (server_off (w.values.conns k)) (server_end_off (w.wires k)) one.0 r.channels one.1
          (λ v closed shown. server_closed k x.settings x.guid x.keys w.values.client.taken c (w.values.conns k)
          (w.wires k) one.0 v closed shown)
          (λ j v other shown. shown) (λ j other ready. ready) h.channels;
    }

-- ---- the event

abbrev dropped_if : Bool → WorldSettings → bytes.World → ℕ → bytes.World
dropped_if b z w k = if b then bytes_later (dropped_wires w k) 1 else w

pub open_there : (z : WorldSettings) (x : World) (w : bytes.World) (k : ℕ) → ShowsWorld z x w
    → (w.values.conns k).server_open ≡ served_in (slice_get x.channels.items k)
open_there z x w k h =
    is_served x.settings x.guid x.keys w.values.client.taken (seen_of w.values.client) w.values.conns w.wires x.channels.items h.channels k

pub dropped : (z : WorldSettings) (x y v : World) (w : bytes.World) (k : ℕ) → Drops x.book x.channels.items x.moment k
    y.book y.channels.items
    → served_in (slice_get x.channels.items k) ≡ true
    → v ≡ record (record x { book = y.book; channels = y.channels }) { moment = v.moment } → v.moment ≡ no_later (x.moment + 1)
    → ShowsWorld z x w → (step_error w (Plain (Drop k)) ≡ None) × ShowsWorld z v (bytes_happen z w (Plain (Drop k)))
dropped z x y v w k r there late time h =
    let is_there = open_there z x w k h ∙ there in (
      ap (λ (b : Bool). unless_open b k) is_there,
      subst (λ (b : Bool). ShowsWorld z v (dropped_if b z w k)) (sym is_there)
          (later_shown z (record x { book = y.book; channels = y.channels }) v (dropped_wires w k) 1 late time (drops z x y w k r there h)),
    )

pub not_there : (z : WorldSettings) (x : World) (w : bytes.World) (k : ℕ) → served_in (slice_get x.channels.items k)
    ≡ false → ShowsWorld z x w
    → (step_error w (Plain (Drop k)) ≡ Some (notes.NoChannel k)) × ShowsWorld z x w
not_there z x w k e h = (ap (λ (b : Bool). unless_open b k) (open_there z x w k h ∙ e), h)
