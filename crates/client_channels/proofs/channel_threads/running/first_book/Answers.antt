use Rattle.std.proofs.Common.{ℕ, subst}
use Rattle.client_book.specs.Steps.{IsNew}
use Rattle.client_channels.proofs.channel_threads.running.first_book.Goals as goal

pub returns : goal.returns
returns g c = subst (λ (n : ℕ). IsNew n c.new.result) c.salt_for.ensures c.new.ensures
