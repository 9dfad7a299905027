-- What a CREATE asks to be told.
use Rattle.std.specs.Prelude.{Bool, is_some}
use Rattle.spec_exchange.specs.Commands.{CreateRequest}
use Rattle.server_effects.specs.declared.creates.Asks.{Asks}

abbrev pub asks_with : Bool → Bool → Bool → Asks
asks_with durable maximal disk_id = record { durable = durable; maximal = maximal; disk_id = disk_id }

abbrev pub asks_of : CreateRequest → Asks
asks_of r = asks_with (is_some r.durable) r.maximal r.disk_id
