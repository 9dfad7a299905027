-- A world shows the same behind a note.
use Rattle.std.proofs.Common.{sym, subst}
use Rattle.spec_world.specs.Settings.{WorldSettings}
use Rattle.spec_world.specs.World as bytes
use Rattle.world_ends.specs.Shown.{ShowsWorld}
use Rattle.world_ends.specs.declared.world.World.{World}
use Rattle.world_steps.specs.notes.Noted.{Noted}

pub still : (z : WorldSettings) (x y : World) (w : bytes.World) → Noted x y → ShowsWorld z x w → ShowsWorld z y w
still z x y w e h =
    subst (λ (v : World). ShowsWorld z v w) (sym e)
    (record {
      settings = h.settings;
      own = h.own;
      session = h.session;
      server = h.server;
      moment = h.moment;
      draws = h.draws;
      places = h.places;
      channels = h.channels;
    })
