use Rattle.std.proofs.Common.{refl}
use Rattle.server_core.proofs.disk_server.asked.setup_logon.Goals as goal

pub returns : goal.returns
returns g c = λ base s L records h. record {
  binds = refl;
  signed = refl;
  algorithm = refl;
  signer = c.signer-signer.ensures base s L records h;
  verified = c.in_ok-verified.ensures;
}
