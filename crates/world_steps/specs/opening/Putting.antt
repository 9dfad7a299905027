-- A connection that becomes another one.
use Rattle.std.specs.Prelude.{◌≡◌}
use Rattle.world_ends.specs.declared.sides.Channel.{Channel}

abbrev pub Becomes : Channel → Channel → Channel → Type 0
Becomes v old new = new ≡ v
