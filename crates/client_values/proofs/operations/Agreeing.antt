-- The model's waiting and that of shapes are one, kind by kind.
use Rattle.std.proofs.Common.{◌≡◌, ℕ, List, length, refl}
use Rattle.spec_exchange.specs.Operations.{Op, OpCreate, OpWrite, OpRead, OpEnd, OpTime, OpRename, OpRemove, OpLock}
use Rattle.spec_exchange.specs.Operations.{OpUnlock, OpFlush, OpStat, OpList, OpClose, holds_up, lock_waits}
use Rattle.spec_exchange.specs.Operations.{write_holds_up, end_holds_up, is_change_or_close, is_close}
use Rattle.client_values.specs.operations.Waiting.{kind_of, at_of, size_of, shape_holds, is_close_kind, is_operation_changing, end_holds}
use Rattle.client_values.specs.operations.Waiting.{write_holds, lock_holds}

close_same : (b : Op) → is_close b ≡ is_close_kind (kind_of b)
close_same (OpCreate path access share disposition persist directory) = refl
close_same (OpWrite create q bytes) = refl
close_same (OpRead create q m) = refl
close_same (OpEnd create m) = refl
close_same (OpTime create time) = refl
close_same (OpRename create path) = refl
close_same (OpRemove create) = refl
close_same (OpLock create q m exclusive) = refl
close_same (OpUnlock create q m) = refl
close_same (OpFlush create) = refl
close_same (OpStat create) = refl
close_same (OpList create) = refl
close_same (OpClose create) = refl

change_same : (b : Op) → is_change_or_close b ≡ is_operation_changing (kind_of b)
change_same (OpCreate path access share disposition persist directory) = refl
change_same (OpWrite create q bytes) = refl
change_same (OpRead create q m) = refl
change_same (OpEnd create m) = refl
change_same (OpTime create time) = refl
change_same (OpRename create path) = refl
change_same (OpRemove create) = refl
change_same (OpLock create q m exclusive) = refl
change_same (OpUnlock create q m) = refl
change_same (OpFlush create) = refl
change_same (OpStat create) = refl
change_same (OpList create) = refl
change_same (OpClose create) = refl

end_same : (b : Op) → end_holds_up b ≡ end_holds (kind_of b)
end_same (OpCreate path access share disposition persist directory) = refl
end_same (OpWrite create q bytes) = refl
end_same (OpRead create q m) = refl
end_same (OpEnd create m) = refl
end_same (OpTime create time) = refl
end_same (OpRename create path) = refl
end_same (OpRemove create) = refl
end_same (OpLock create q m exclusive) = refl
end_same (OpUnlock create q m) = refl
end_same (OpFlush create) = refl
end_same (OpStat create) = refl
end_same (OpList create) = refl
end_same (OpClose create) = refl

lock_same : (p n : ℕ) (b : Op) → lock_waits p n b ≡ lock_holds p n (kind_of b) (at_of b) (size_of b)
lock_same p n (OpCreate path access share disposition persist directory) = refl
lock_same p n (OpWrite create q bytes) = refl
lock_same p n (OpRead create q m) = refl
lock_same p n (OpEnd create m) = refl
lock_same p n (OpTime create time) = refl
lock_same p n (OpRename create path) = refl
lock_same p n (OpRemove create) = refl
lock_same p n (OpLock create q m exclusive) = refl
lock_same p n (OpUnlock create q m) = refl
lock_same p n (OpFlush create) = refl
lock_same p n (OpStat create) = refl
lock_same p n (OpList create) = refl
lock_same p n (OpClose create) = refl

write_same : (p : ℕ) (bytes : List ℕ) (b : Op) → write_holds_up p bytes b ≡ write_holds p (length bytes) (kind_of b) (at_of b) (size_of b)
write_same p bytes (OpCreate path access share disposition persist directory) = refl
write_same p bytes (OpWrite create q more) = refl
write_same p bytes (OpRead create q m) = refl
write_same p bytes (OpEnd create m) = refl
write_same p bytes (OpTime create time) = refl
write_same p bytes (OpRename create path) = refl
write_same p bytes (OpRemove create) = refl
write_same p bytes (OpLock create q m exclusive) = refl
write_same p bytes (OpUnlock create q m) = refl
write_same p bytes (OpFlush create) = refl
write_same p bytes (OpStat create) = refl
write_same p bytes (OpList create) = refl
write_same p bytes (OpClose create) = refl

pub shapes_same : (a b : Op) → holds_up a b ≡ shape_holds (kind_of a) (at_of a) (size_of a) (kind_of b) (at_of b) (size_of b)
shapes_same (OpCreate path access share disposition persist directory) b = refl
shapes_same (OpWrite create at bytes) b = write_same at bytes b
shapes_same (OpRead create at size) b = close_same b
shapes_same (OpEnd create size) b = end_same b
shapes_same (OpTime create time) b = change_same b
shapes_same (OpRename create path) b = change_same b
shapes_same (OpRemove create) b = change_same b
shapes_same (OpLock create at n exclusive) b = lock_same at n b
shapes_same (OpUnlock create at n) b = lock_same at n b
shapes_same (OpFlush create) b = close_same b
shapes_same (OpStat create) b = close_same b
shapes_same (OpList create) b = close_same b
shapes_same (OpClose create) b = refl
