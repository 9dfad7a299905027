-- A world of which nothing but its notes changed.
use Rattle.std.specs.Prelude.{◌≡◌}
use Rattle.world_ends.specs.declared.world.World.{World}

abbrev pub Noted : World → World → Type 0
Noted x y = y ≡ record x { notes = y.notes }
