use Rattle.server_effects.proofs.leaving_opens.Files.{on_ok_by}
use Rattle.server_effects.proofs.leaving_opens.leaving.Leaving.put.Goals as goal

pub returns : goal.returns
returns c = on_ok_by c.put_left.result c.put_left.ensures (λ f. (f, c.in_ok-put_gone.ensures))
