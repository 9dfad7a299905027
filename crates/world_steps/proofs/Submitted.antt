-- An operation comes.
use Rattle.std.proofs.Common.{◌≡◌, ℕ, ◌+◌, ◌==◌, ◌&&◌, Bool, true, false, refl, arith, None}
use Rattle.std.proofs.lemmas.Bool.Decides.{nat_tests}
use Rattle.client_steps.specs.whole_client.Shown.{ShowsClient}
use Rattle.law_client.proofs.table.Events.{keeps}
use Rattle.client_events.proofs.world_law.Events.{asks_on}
use Rattle.spec_exchange.specs.Client.{Client, may_take}
use Rattle.spec_exchange.specs.ClientStep.{TakesOp, client_after}
use Rattle.spec_exchange.specs.Network.{Submit}
use Rattle.client_values.specs.operations.Meaning.{op_of}
use Rattle.client_values.specs.declared.operations.values.OpKind.{OpKind}
use Rattle.spec_exchange.specs.State.{no_later}
use Rattle.spec_world.specs.Events.{Plain, bytes_changed, bytes_happen}
use Rattle.spec_world.specs.Notes.{step_error}
use Rattle.spec_world.specs.Settings.{WorldSettings}
use Rattle.spec_world.specs.World as bytes
use Rattle.world_ends.specs.Shown.{ShowsWorld}
use Rattle.world_ends.specs.declared.world.World.{World}
use Rattle.world_steps.specs.Parts.{WorldTakes}
use Rattle.world_steps.proofs.ClientTold.{channels_taken, own_taken, places_taken}
use Rattle.world_steps.proofs.Onward.{later_shown}

front : (a b : Bool) → (a && b) ≡ true → a ≡ true
front true b e = refl
front false b e = absurd (cc)

same_number : (n k : ℕ) → (n == k) ≡ true → n ≡ k
same_number n k h = grind (arith, nat_tests)

-- the number of one that may be taken is the next one
next : (c : Client) (g : ℕ) (kind : OpKind) → may_take c g (op_of kind) ≡ true → g ≡ c.taken + 1
next c g kind e = same_number g (c.taken + 1) (front (g == c.taken + 1) _ e)

pub submitted : (z : WorldSettings) (x y : World) (w : bytes.World) (g : ℕ) (kind : OpKind)
    → WorldTakes x.client x.places g kind y.client y.places → ShowsWorld z x w
    → ShowsWorld z (record x { client = y.client; places = y.places }) (bytes_changed z w (Submit g (op_of kind)))
submitted z x y w g kind r h =
    let c = w.values.client in
    let e = TakesOp g (op_of kind) in
    let shown : ShowsClient y.client (client_after c e) = r.shown c e h.own.client h.own.kept refl in
    let b = may_take c g (op_of kind) in
    record {
      settings = h.settings;
      own = own_taken b z x.client x.accepted x.making c g (op_of kind) y.client shown (keeps c e h.own.kept tt)
          (asks_on c e h.own.asks) h.own;
      session = h.session;
      server = h.server;
      moment = h.moment;
      draws = h.draws;
      places = places_taken b c g (op_of kind) x.places y.places w.values.log.places w.values.log.who w.values.log.first w.values.log.birth
          (next c g kind) (r.marked (client_after c e) shown) h.places;
      channels = channels_taken b c g (op_of kind) x.settings x.guid x.keys w.values.conns w.wires x.channels.items
          (next c g kind) h.channels;
    }

-- ---- the event

pub submits : (z : WorldSettings) (x y v : World) (w : bytes.World) (g : ℕ) (kind : OpKind)
    → WorldTakes x.client x.places g kind y.client y.places
    → v ≡ record (record x { client = y.client; places = y.places }) { moment = v.moment } → v.moment ≡ no_later (x.moment + 1)
    → ShowsWorld z x w
    → (step_error w (Plain (Submit g (op_of kind))) ≡ None) × ShowsWorld z v (bytes_happen z w (Plain (Submit g (op_of kind))))
submits z x y v w g kind r late time h = (
  refl,
  later_shown z (record x { client = y.client; places = y.places }) v (bytes_changed z w (Submit g (op_of kind))) 1 late time
      (submitted z x y w g kind r h),
)
