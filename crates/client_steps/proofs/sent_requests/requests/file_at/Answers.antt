use Rattle.std.proofs.Common.{refl}
use Rattle.client_steps.proofs.sent_requests.requests.file_at.Goals as goal

pub returns : goal.returns
returns c = (c.known_at-known.result, c.known_at-known.ensures, refl)
