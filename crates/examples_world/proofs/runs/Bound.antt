-- Who signs in a binding, and what the bound channel has, computed.
use Rattle.std.proofs.Common.{◌≡◌, true, Some, replicate, refl}
use Rattle.spec_exchange.specs.Commands.{Setup}
use Rattle.spec_exchange.specs.Fold.{nothing_yet}
use Rattle.spec_world.specs.Logon.{Interim, signer_by, final_keys}
use Rattle.examples_world.specs.runs.Ends.{greeted_end, nobody}
use Rattle.examples_world.specs.runs.Keyed.{keyed_logons, binding, bound_request, bound_second}
use Rattle.examples_world.specs.connections.Parts.{some_keys}

pub bound :
    (signer_by nothing_yet nobody.users keyed_logons 0 greeted_end binding (Setup (bound_request true true)) 0xc000_0016 (Interim true)
    ≡ Some some_keys.signing)
    × ((final_keys nobody.users keyed_logons 0 greeted_end binding true).to_server ≡ replicate 32 2) × (bound_second.channel ≡ 2)
bound = (refl, refl, refl)
