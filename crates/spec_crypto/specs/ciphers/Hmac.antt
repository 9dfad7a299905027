-- HMAC (RFC 2104), over a hash with blocks of 64 bytes.
use Rattle.std.specs.Prelude.{ℕ, ◌-◌, nat_lt, List, ◌++◌, length, map, replicate, bit_xor, if◌then◌else◌}
use Rattle.sha2.specs.Sha256.{sha256}
use Rattle.md5.specs.Md5.{md5}

-- The key, or its hash where it is longer than a block, and zeros up to a block (RFC 2104, 2).
abbrev pub short_key : (List ℕ → List ℕ) → List ℕ → List ℕ
short_key hash key = if nat_lt 64 (length key) then hash key else key

abbrev pub zero_padded : ℕ → List ℕ → List ℕ
zero_padded n bytes = bytes ++ replicate (n - length bytes) 0

abbrev pub key_block : (List ℕ → List ℕ) → List ℕ → List ℕ
key_block hash key = zero_padded 64 (short_key hash key)

-- each byte of a block joined with the pad's
abbrev pub padded_by : ℕ → List ℕ → List ℕ
padded_by pad block = map (λ b. bit_xor b pad) block

-- H(K XOR opad, H(K XOR ipad, text)), where ipad is the byte 36 and opad the byte 5C, 64 times
abbrev pub hmac : (List ℕ → List ℕ) → List ℕ → List ℕ → List ℕ
hmac hash key text =
    hash (padded_by 0x5c (key_block hash key) ++ hash (padded_by 0x36 (key_block hash key) ++ text))

abbrev pub hmac_of_md5 : List ℕ → List ℕ → List ℕ
hmac_of_md5 key text = hmac md5 key text

abbrev pub hmac_of_sha256 : List ℕ → List ℕ → List ℕ
hmac_of_sha256 key text = hmac sha256 key text
