use Rattle.law_hostile.proofs.puts.Requests.{signed_was_put}
use Rattle.law_hostile.proofs.puts.signed_was_put_law.Goals as goal

pub returns : goal.returns
returns c = record { put = signed_was_put }
