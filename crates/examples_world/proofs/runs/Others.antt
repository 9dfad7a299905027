-- What a request names, and a response that leaves no credit, computed.
use Rattle.std.proofs.Common.{◌≡◌, replicate, Some, None, refl}
use Rattle.spec_exchange.specs.Client.{SaidFirst, AskedTree}
use Rattle.spec_exchange.specs.Operations.{BadToken}
use Rattle.std.proofs.Common.{false}
use Rattle.spec_wire.specs.messages.Places.{number_of, le, bytes_at}
use Rattle.spec_world.specs.Related.{file_at, file_place}
use Rattle.spec_world.specs.Dialog.{setup_flags, setup_token}
use Rattle.examples_world.specs.runs.Events.{fault_at}

pub short_request : (file_place 11 ≡ Some 72) × (file_at 72 (replicate 87 1) ≡ replicate 16 0) × (file_at 72 (replicate 88 1) ≡ replicate 16 1)
unfolding bytes_at file_place
short_request = (refl, refl, refl)

pub no_credit :
    (fault_at (SaidFirst false) 0 ≡ Some BadToken) × (fault_at (SaidFirst false) 1 ≡ None) × (fault_at AskedTree 0 ≡ None)
unfolding number_of le bytes_at setup_flags setup_token
no_credit = (refl, refl, refl)
