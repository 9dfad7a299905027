-- Bytes copied into the middle of a list lengthen its filled front.
use Rattle.std.proofs.Common.{◌≡◌, ℕ, ◌+◌, ◌≤◌, List, ◌++◌, length, take, drop, sym, ◌∙◌, arith, append_assoc}
use Rattle.std.proofs.Common.{length-append, length-take-le}
use Rattle.std.proofs.lemmas.List.{take_at, take_all, length-take}

pub front_grown : (at : ℕ) (old v : List ℕ) → at + length v ≤ length old
    → take (at + length v) (take at old ++ (v ++ drop (at + length v) old)) ≡ take at old ++ v
front_grown at old v fits =
    let front : length (take at old) ≡ at = length-take-le at old (omega arith) in
    let whole : length (take at old ++ v) ≡ at + length v = length-append (take at old) v ∙ omega arith in
    rw (← append_assoc (take at old) v (drop (at + length v) old))
    (take_at (take at old ++ v) (drop (at + length v) old) (at + length v) whole)

pub all_filled : (at n : ℕ) (bytes : List ℕ) → at ≤ n → length bytes ≡ n → length (take at bytes) ≡ n → bytes ≡ take at bytes
all_filled at n bytes le len filled = sym (take_all at bytes (omega (arith, length-take at bytes)))
