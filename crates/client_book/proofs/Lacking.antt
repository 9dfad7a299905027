-- Answers that may find no memory.
use Rattle.std.proofs.Common.{Result, Ok, Err, IfOk}

pub result_with : {T E : Type 0} {P Q : T → Type 0} (r : Result T E) → ((v : T) → P v → Q v) → IfOk r P → IfOk r Q
result_with (Ok v) f h = f v h
result_with (Err e) f h = h
