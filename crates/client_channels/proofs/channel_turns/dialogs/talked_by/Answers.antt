use Rattle.std.proofs.Common.{refl}
use Rattle.client_channels.proofs.channel_turns.dialogs.talked_by.Goals as goal

pub returns-in-None : goal.returns-in-None
returns-in-None c = λ s. rw c.in-None.is refl

pub returns-in-Some : goal.returns-in-Some
returns-in-Some c = λ s. rw c.in-Some.is refl
