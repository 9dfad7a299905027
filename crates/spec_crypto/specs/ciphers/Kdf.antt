-- Key derivation in counter mode (SP 800-108, 4.1) by HMAC with SHA-256, as MS-SMB2 3.1.4.2 takes it: the counter and
-- the length have 32 bits, high byte first.
use Rattle.std.specs.Prelude.{ℕ, zero, suc, ◌+◌, ◌/◌, List, [], ◌∷◌, ◌++◌, take}
use Rattle.std.specs.Int.{w32, to_be_bytes}
use Rattle.spec_crypto.specs.ciphers.Hmac.{zero_padded, hmac_of_sha256}

-- the counter, the label, a zero byte, the context and the length in bits of the key
abbrev pub fixed_input : ℕ → List ℕ → List ℕ → ℕ → List ℕ
fixed_input counter label context bits =
    to_be_bytes w32 counter ++ (label ++ (0 ∷ [] ++ (context ++ to_be_bytes w32 bits)))

-- the first n outputs, with counters from 1
unfoldable pub outputs : List ℕ → List ℕ → List ℕ → ℕ → ℕ → List ℕ
outputs key label context bits zero = []
outputs key label context bits (suc n) =
    outputs key label context bits n ++ hmac_of_sha256 key (fixed_input (n + 1) label context bits)

-- the first bits of as many outputs of 256 bits as they take
unfoldable pub derived : List ℕ → List ℕ → List ℕ → ℕ → List ℕ
derived key label context bits = take (bits / 8) (outputs key label context bits ((bits + 255) / 256))

-- the derived key, with zeros behind it up to 32 bytes
abbrev pub derived_padded : List ℕ → List ℕ → List ℕ → ℕ → List ℕ
derived_padded key label context bits = zero_padded 32 (derived key label context bits)
