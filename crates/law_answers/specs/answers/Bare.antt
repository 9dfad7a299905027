-- A reply other than a success has no body.
use Rattle.std.specs.Prelude.{◌≡◌}
use Rattle.spec_exchange.specs.Status.{success}
use Rattle.spec_exchange.specs.State.{Answer, Empty}
use Rattle.spec_exchange.specs.Network.{World, Sent, answer}

abbrev pub IsAnswerBare : Answer → Type 0
IsAnswerBare A = (A.reply.status ≡ success → ⊥) → A.reply.body ≡ Empty

abbrev pub RefusalsAreBare : Type 0
RefusalsAreBare = (w : World) (x : Sent) → IsAnswerBare (answer w x)
