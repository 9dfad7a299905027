-- Bytes whose checksums are published (RFC 3720 B.4, and those of the text that tables of checksums use).
use Rattle.std.specs.Prelude.{ℕ, suc, zero, List, [], ◌∷◌, ◌++◌, replicate}

-- the digits from 1 to 9
abbrev pub digits : List ℕ
digits = 49 ∷ 50 ∷ 51 ∷ 52 ∷ 53 ∷ 54 ∷ 55 ∷ 56 ∷ 57 ∷ []

-- the numbers below n, upwards
abbrev pub upwards : ℕ → List ℕ
upwards zero = []
upwards (suc n) = upwards n ++ n ∷ []

-- and downwards
abbrev pub downwards : ℕ → List ℕ
downwards zero = []
downwards (suc n) = n ∷ downwards n

-- an iSCSI Read (10) command
abbrev pub read_command : List ℕ
read_command = 0x01 ∷ 0xc0 ∷ (replicate 14 0 ++ (0x14 ∷ 0 ∷ 0 ∷ 0 ∷ 0 ∷ 0 ∷ 0x04 ∷ 0 ∷ 0 ∷ 0 ∷ 0 ∷ 0x14 ∷ 0 ∷ 0 ∷ 0 ∷ 0x18 ∷ 0x28 ∷ []
    ++ (replicate 7 0 ++ (0x02 ∷ replicate 7 0))))
