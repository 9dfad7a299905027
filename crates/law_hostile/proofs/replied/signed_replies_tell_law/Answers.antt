use Rattle.law_hostile.proofs.replied.Responses.{signed_replies_tell}
use Rattle.law_hostile.proofs.replied.signed_replies_tell_law.Goals as goal

pub returns : goal.returns
returns c = record { tell = signed_replies_tell c.headers_law.ensures.lawful c.commands_law.ensures.lawful }
