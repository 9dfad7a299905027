-- The model's values of the code's operations and replies.
use Rattle.client_values.specs.declared.operations.values.OpKind.{OpKind}
use Rattle.client_values.specs.declared.operations.values.OpKind.TheVariants as kinds
use Rattle.client_values.specs.declared.operations.values.OpReply.{OpReply as Told}
use Rattle.client_values.specs.declared.operations.values.OpReply.TheVariants as told
use Rattle.spec_exchange.specs.Operations.{Op, OpCreate, OpWrite, OpRead, OpEnd, OpTime, OpRename, OpRemove, OpLock}
use Rattle.spec_exchange.specs.Operations.{OpUnlock, OpFlush, OpStat, OpList, OpClose, OpReply, IsDone, Action, IsCount}
use Rattle.spec_exchange.specs.Operations.{IsContent, Length, Names}

abbrev pub op_of : OpKind → Op
op_of (kinds.Create path access share disposition persist directory) = OpCreate path access share disposition persist directory
op_of (kinds.Write create at bytes) = OpWrite create at bytes
op_of (kinds.Read create at length) = OpRead create at length
op_of (kinds.SetEnd create length) = OpEnd create length
op_of (kinds.SetTime create time) = OpTime create time
op_of (kinds.Rename create path) = OpRename create path
op_of (kinds.Remove create) = OpRemove create
op_of (kinds.Lock create at length exclusive) = OpLock create at length exclusive
op_of (kinds.Unlock create at length) = OpUnlock create at length
op_of (kinds.Flush create) = OpFlush create
op_of (kinds.Stat create) = OpStat create
op_of (kinds.List create) = OpList create
op_of (kinds.Close create) = OpClose create

abbrev pub reply_of : Told → OpReply
reply_of told.Done = IsDone
reply_of (told.Action action) = Action action
reply_of (told.Count count) = IsCount count
reply_of (told.Content bytes) = IsContent bytes
reply_of (told.Length size) = Length size
reply_of (told.Names names) = Names names

-- it owns no bytes
abbrev pub IsOperationPlain : OpKind → Type 0
IsOperationPlain (kinds.Create path access share disposition persist directory) = ⊥
IsOperationPlain (kinds.Write create at bytes) = ⊥
IsOperationPlain (kinds.Rename create path) = ⊥
IsOperationPlain _ = Unit {0}
