use Rattle.std.proofs.Common.{◌∙◌}
use Rattle.law_crypto.proofs.sealing.Frames.{added_in}
use Rattle.crypto_sessions.proofs.session_keys.sealing.added_in.Goals as goal

pub returns : goal.returns
returns c = c.copy_from_slice.ensures.after ∙ added_in c.args.frame.now
