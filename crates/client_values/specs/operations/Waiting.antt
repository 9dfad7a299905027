-- Whether one operation waits for another, by their kinds and their ranges of bytes.
use Rattle.std.specs.Prelude.{ℕ, ◌==◌, Bool, true, false, not, length}
use Rattle.client_values.specs.declared.operations.shapes.Kind.{Kind}
use Rattle.client_values.specs.declared.operations.shapes.Kind.TheVariants as kinds
use Rattle.spec_exchange.specs.Content.{meets}
use Rattle.spec_exchange.specs.Operations.{Op, OpCreate, OpWrite, OpRead, OpEnd, OpTime, OpRename, OpRemove, OpLock}
use Rattle.spec_exchange.specs.Operations.{OpUnlock, OpFlush, OpStat, OpList, OpClose}

abbrev pub kind_of : Op → Kind
kind_of (OpCreate path access share disposition persist directory) = kinds.Create
kind_of (OpWrite create at bytes) = kinds.Write
kind_of (OpRead create at size) = kinds.Read
kind_of (OpEnd create size) = kinds.End
kind_of (OpTime create time) = kinds.Change
kind_of (OpRename create path) = kinds.Change
kind_of (OpRemove create) = kinds.Change
kind_of (OpLock create at n exclusive) = kinds.Lock
kind_of (OpUnlock create at n) = kinds.Lock
kind_of (OpFlush create) = kinds.Look
kind_of (OpStat create) = kinds.Look
kind_of (OpList create) = kinds.List
kind_of (OpClose create) = kinds.Close

-- where its bytes begin, and how many they are
abbrev pub at_of : Op → ℕ
at_of (OpWrite create at bytes) = at
at_of (OpRead create at size) = at
at_of (OpLock create at n exclusive) = at
at_of (OpUnlock create at n) = at
at_of _ = 0

abbrev pub size_of : Op → ℕ
size_of (OpWrite create at bytes) = length bytes
size_of (OpRead create at size) = size
size_of (OpLock create at n exclusive) = n
size_of (OpUnlock create at n) = n
size_of _ = 0

abbrev pub is_close_kind : Kind → Bool
is_close_kind kinds.Create = false
is_close_kind kinds.Write = false
is_close_kind kinds.Read = false
is_close_kind kinds.End = false
is_close_kind kinds.Change = false
is_close_kind kinds.Lock = false
is_close_kind kinds.Look = false
is_close_kind kinds.List = false
is_close_kind kinds.Close = true

-- a change or a close
abbrev pub is_operation_changing : Kind → Bool
is_operation_changing kinds.Create = false
is_operation_changing kinds.Write = true
is_operation_changing kinds.Read = false
is_operation_changing kinds.End = true
is_operation_changing kinds.Change = true
is_operation_changing kinds.Lock = false
is_operation_changing kinds.Look = false
is_operation_changing kinds.List = false
is_operation_changing kinds.Close = true

-- an end holds up all changes and all that look at bytes or length
abbrev pub end_holds : Kind → Bool
end_holds kinds.Create = false
end_holds kinds.Write = true
end_holds kinds.Read = true
end_holds kinds.End = true
end_holds kinds.Change = true
end_holds kinds.Lock = false
end_holds kinds.Look = true
end_holds kinds.List = false
end_holds kinds.Close = true

-- a write holds up changes that may overlap it, and what looks at its bytes
abbrev pub write_holds : (p n : ℕ) → Kind → (q m : ℕ) → Bool
write_holds p n kinds.Create q m = false
write_holds p n kinds.Write q m = meets p n q m
write_holds p n kinds.Read q m = meets p n q m
write_holds p n kinds.End q m = true
write_holds p n kinds.Change q m = true
write_holds p n kinds.Lock q m = false
write_holds p n kinds.Look q m = not (n == 0)
write_holds p n kinds.List q m = false
write_holds p n kinds.Close q m = true

abbrev pub lock_holds : (p n : ℕ) → Kind → (q m : ℕ) → Bool
lock_holds p n kinds.Create q m = false
lock_holds p n kinds.Write q m = false
lock_holds p n kinds.Read q m = false
lock_holds p n kinds.End q m = false
lock_holds p n kinds.Change q m = false
lock_holds p n kinds.Lock q m = meets p n q m
lock_holds p n kinds.Look q m = false
lock_holds p n kinds.List q m = false
lock_holds p n kinds.Close q m = true

-- the second waits for the first
abbrev pub shape_holds : Kind → (p n : ℕ) → Kind → (q m : ℕ) → Bool
shape_holds kinds.Create p n k q m = false
shape_holds kinds.Write p n k q m = write_holds p n k q m
shape_holds kinds.Read p n k q m = is_close_kind k
shape_holds kinds.End p n k q m = end_holds k
shape_holds kinds.Change p n k q m = is_operation_changing k
shape_holds kinds.Lock p n k q m = lock_holds p n k q m
shape_holds kinds.Look p n k q m = is_close_kind k
shape_holds kinds.List p n k q m = is_close_kind k
shape_holds kinds.Close p n k q m = true
