-- What an event comes to, with room or without.
use Rattle.std.specs.Prelude.{◌≡◌, ◌⊎◌}
use Rattle.spec_exchange.specs.State as says
use Rattle.spec_exchange.specs.Step as steps

-- its ruling, or where the records don't fit the one without them
abbrev pub MayRule : says.Server → says.ServerEvent → steps.Ruling → Type 0
MayRule s e r = (r ≡ steps.ruling s e) ⊎ (r ≡ steps.ruling_without_room (steps.ruling s e))
