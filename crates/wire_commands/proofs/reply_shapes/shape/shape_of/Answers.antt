use Rattle.wire_commands.proofs.reply_shapes.Alike.{create, list, lock, set, setup, tree}
use Rattle.wire_commands.proofs.reply_shapes.shape.shape_of.Goals as goal

pub returns-in-Setup : goal.returns-in-Setup
returns-in-Setup c = rw c.in-Setup.is (λ token r. setup token _ _ r)

pub returns-in-TreeConnect : goal.returns-in-TreeConnect
returns-in-TreeConnect c = rw c.in-TreeConnect.is (λ token r. tree token _ _ r)

pub returns-in-Create : goal.returns-in-Create
returns-in-Create c = rw c.in-Create.is (λ token r. create token _ _ r)

pub returns-in-Lock : goal.returns-in-Lock
returns-in-Lock c = rw c.in-Lock.is (λ token r. lock token _ _ _ _ _ r)

pub returns-in-ListDirectory : goal.returns-in-ListDirectory
returns-in-ListDirectory c = rw c.in-ListDirectory.is (λ token r. list token _ _ _ _ _ _ _ r)

pub returns-in-SetInfo : goal.returns-in-SetInfo
returns-in-SetInfo c = rw c.in-SetInfo.is (λ token r. set token _ _ _ r)
