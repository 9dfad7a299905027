use Rattle.server_effects.proofs.leaving_opens.Files.{none_at}
use Rattle.server_effects.proofs.leaving_opens.leaving.Leaving.new.Goals as goal

pub returns : goal.returns
returns c = λ s i. none_at (record { files = c.new.result; gone = c.new-2.result }) s c.new.ensures.empty c.new-2.ensures.empty i
