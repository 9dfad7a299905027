use Rattle.std.proofs.Common.{ℕ, ◌==◌, ap, sym}
use Rattle.server_checks.proofs.check_setup.is_client.Goals as goal

pub returns : goal.returns
returns c = λ s h. ap (λ (z : ℕ). c.args.m.now.client_guid == z) (sym h.1.client_is)
