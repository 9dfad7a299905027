-- Target information: pairs of Id:2, Length:2 and a value, up to the pair of the id 0 (MS-NLMP 2.2.2.1).
use Rattle.std.specs.Prelude.{ℕ, zero, suc, ◌+◌, ◌==◌, nat_lt, if◌then◌else◌, List, [], ◌∷◌, ◌++◌, length, drop, Option, Some, None}
use Rattle.spec_wire.specs.messages.Places.{le, number, bytes_at}

-- the bytes of the pair in front
abbrev pub pair_size : List ℕ → ℕ
pair_size bytes = 4 + number 2 bytes 2

-- the place of the first pair that doesn't fit before an end pair, for bytes from this place on and at most n pairs
unfoldable pub pairs_break : ℕ → ℕ → List ℕ → Option ℕ
pairs_break zero at bytes = Some at
pairs_break (suc n) at bytes =
    if nat_lt (length bytes) 4 then Some at
    else if number 2 bytes 0 == 0 then None
    else if nat_lt (length bytes) (pair_size bytes) then Some at
    else pairs_break n (at + pair_size bytes) (drop (pair_size bytes) bytes)

-- the value of the first pair with this id
unfoldable pub pair_in : ℕ → ℕ → List ℕ → Option (List ℕ)
pair_in zero id bytes = None
pair_in (suc n) id bytes =
    if nat_lt (length bytes) 4 then None
    else if number 2 bytes 0 == 0 then None
    else if nat_lt (length bytes) (pair_size bytes) then None
    else if number 2 bytes 0 == id then Some (bytes_at (number 2 bytes 2) bytes 4)
    else pair_in n id (drop (pair_size bytes) bytes)

-- how many bytes stand before the end pair
unfoldable pub end_at : ℕ → List ℕ → ℕ
end_at zero bytes = 0
end_at (suc n) bytes =
    if nat_lt (length bytes) 4 then 0
    else if number 2 bytes 0 == 0 then 0
    else if nat_lt (length bytes) (pair_size bytes) then 0
    else pair_size bytes + end_at n (drop (pair_size bytes) bytes)

abbrev pub pair : ℕ → List ℕ → List ℕ
pair id value = le 2 id ++ (le 2 (length value) ++ value)

abbrev pub end_pair : List ℕ
end_pair = 0 ∷ 0 ∷ 0 ∷ 0 ∷ []
