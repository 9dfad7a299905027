-- What is open of a connection in code.
use Rattle.std.specs.Prelude.{ℕ, Bool, true, false, List, slice_get, Option, Some, None, is_some}
use Rattle.world_ends.specs.declared.sides.Channel.{Channel}
use Rattle.world_ends.specs.declared.sides.ClientSide.{ClientSide}
use Rattle.world_ends.specs.declared.sides.ClientSide.TheVariants.{Closed, Talks, Ready}

abbrev pub is_open : ClientSide → Bool
is_open Closed = false
is_open (Talks d) = true
is_open (Ready l) = true

abbrev pub is_ready : ClientSide → Bool
is_ready Closed = false
is_ready (Talks d) = false
is_ready (Ready l) = true

-- of no connection nothing is open
abbrev pub opened_in : Option Channel → Bool
opened_in None = false
opened_in (Some c) = is_open c.client

abbrev pub readied_in : Option Channel → Bool
readied_in None = false
readied_in (Some c) = is_ready c.client

abbrev pub served_in : Option Channel → Bool
served_in None = false
served_in (Some c) = is_some c.server
