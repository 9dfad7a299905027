-- A SESSION_SETUP's replies don't depend on what it says.
use Rattle.std.proofs.Common.{◌≡◌, ℕ, List, refl}
use Rattle.spec_commands.specs.ReplyBody.{reply_body}
use Rattle.spec_exchange.specs.Commands.{Setup, SetupRequest}
use Rattle.spec_exchange.specs.State.{Reply}

pub setup_alike : (token : List ℕ) (p q : SetupRequest) (r : Reply) → reply_body token (Setup p) r ≡ reply_body token (Setup q) r
unfolding reply_body
setup_alike token p q r = refl
