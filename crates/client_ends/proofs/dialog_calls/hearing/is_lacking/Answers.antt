use Rattle.std.proofs.Common.{refl}
use Rattle.client_ends.proofs.dialog_calls.hearing.is_lacking.Goals as goal

pub returns-in-Memory : goal.returns-in-Memory
returns-in-Memory c = rw c.in-Memory.is refl

pub returns-in-NotSealed : goal.returns-in-NotSealed
returns-in-NotSealed c = rw c.in-NotSealed.is refl

pub returns-in-BadSize : goal.returns-in-BadSize
returns-in-BadSize c = rw c.in-BadSize.is refl

pub returns-in-OtherSession : goal.returns-in-OtherSession
returns-in-OtherSession c = rw c.in-OtherSession.is refl

pub returns-in-BadTag : goal.returns-in-BadTag
returns-in-BadTag c = rw c.in-BadTag.is refl
