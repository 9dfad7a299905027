use Rattle.std.proofs.lemmas.Option.{slice_get_within}
use Rattle.conn_core.proofs.frame_events.handing.hand_on.Goals as goal

pub checked-requires : goal.checked-requires
checked-requires c = slice_get_within c.args.asked.now.messages.items c.args.at c.requires.message.0 c.requires.message.1
