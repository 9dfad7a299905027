-- Time goes on.
use Rattle.std.proofs.Common.{◌≡◌, ℕ, ◌+◌, ◌*◌, ◌-◌, ◌^◌, min, sym, ap, subst, ◌∙◌, arith}
use Rattle.spec_exchange.specs.State.{no_later}
use Rattle.spec_world.specs.Settings.{WorldSettings}
use Rattle.spec_world.specs.Events.{bytes_later}
use Rattle.spec_world.specs.World as bytes
use Rattle.world_ends.specs.Shown.{ShowsWorld}
use Rattle.world_ends.specs.declared.world.World.{World}

pub capped_more : (m n : ℕ) → no_later (m + min (n * 10000) (2 ^ 64 - 1)) ≡ no_later (m + 10000 * n)
capped_more m n = omega arith

at : (z : WorldSettings) (x : World) (w : bytes.World) (m n : ℕ) → m ≡ no_later (x.moment + n) → ShowsWorld z x w
    → ShowsWorld z (record x { moment = m }) (bytes_later w n)
at z x w m n e h = record {
  settings = h.settings;
  own = h.own;
  session = h.session;
  server = h.server;
  moment = ap (λ (t : ℕ). no_later (t + n)) h.moment ∙ sym e;
  draws = h.draws;
  places = h.places;
  channels = h.channels;
}

-- so many moments later
pub later_shown : (z : WorldSettings) (x y : World) (w : bytes.World) (n : ℕ) → y ≡ record x { moment = y.moment }
    → y.moment ≡ no_later (x.moment + n) → ShowsWorld z x w → ShowsWorld z y (bytes_later w n)
later_shown z x y w n rest e h = subst (λ (v : World). ShowsWorld z v (bytes_later w n)) (sym rest) (at z x w y.moment n e h)
