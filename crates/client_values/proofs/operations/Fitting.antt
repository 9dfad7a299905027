-- Bytes of a slice, and the text of a string, are what the model asks of them.
use Rattle.std.proofs.Common.{◌≡◌, ℕ, ◌<◌, ◌≤◌, suc, List, [], ◌∷◌, length, get_or, Bool, true, ◌&&◌, ◌||◌}
use Rattle.std.proofs.Common.{nat_lt, nat_le, refl, arith, lit≤}
use Rattle.std.specs.Str.{IsUtf8, is_utf8}
use Rattle.std.proofs.lemmas.Str.{is_utf8-from_IsUtf8}
use Rattle.spec_exchange.specs.Operations.{are_below, fits_64, is_text, keeps_limits, weight}
use Rattle.spec_exchange.specs.Operations.{Op, OpCreate, OpWrite, OpRead, OpEnd, OpTime, OpRename, OpRemove, OpLock}
use Rattle.spec_exchange.specs.Operations.{OpUnlock, OpFlush, OpStat, OpList, OpClose}

lower_and : (x n : ℕ) (rest : Bool) → x < n → rest ≡ true → (nat_lt x n && rest) ≡ true
lower_and x n rest h e = grind arith

pub are_below-each : (n : ℕ) (xs : List ℕ) → ((k : ℕ) → k < length xs → get_or xs k 0 < n) → are_below n xs ≡ true
unfolding are_below
are_below-each n [] h = refl
are_below-each n (x ∷ xs) h = lower_and x n (are_below n xs) (h 0 (omega arith)) (are_below-each n xs (λ k l. h (suc k) (omega arith)))

either : (a b : Bool) → b ≡ true → (a || b) ≡ true
either a b e = grind arith

pub text_is : (xs : List ℕ) → IsUtf8 xs → is_text xs ≡ true
unfolding is_text
text_is xs h = either (are_below 128 xs) (is_utf8 xs) (is_utf8-from_IsUtf8 xs h)

-- ---- what keeps its limits pays for 17 at most

at_most : (a : Bool) (n m : ℕ) → (a && nat_le n m) ≡ true → n ≤ m
at_most a n m e = grind arith

at_most_behind : (a b : Bool) (n m : ℕ) → (a && (b && nat_le n m)) ≡ true → n ≤ m
at_most_behind a b n m e = grind arith

pub light : (op : Op) → keeps_limits op ≡ true → weight op ≤ 1048577
light (OpCreate path access share disposition persist directory) e = lit≤ tt
light (OpWrite create at bytes) e = at_most_behind (fits_64 at) (are_below 256 bytes) (length bytes) 1048577 e
light (OpRead create at size) e = at_most (fits_64 at) size 1048577 e
light (OpEnd create size) e = lit≤ tt
light (OpTime create time) e = lit≤ tt
light (OpRename create path) e = lit≤ tt
light (OpRemove create) e = lit≤ tt
light (OpLock create at n exclusive) e = lit≤ tt
light (OpUnlock create at n) e = lit≤ tt
light (OpFlush create) e = lit≤ tt
light (OpStat create) e = lit≤ tt
light (OpList create) e = lit≤ tt
light (OpClose create) e = lit≤ tt
