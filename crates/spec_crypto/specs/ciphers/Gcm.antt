-- GCM and GMAC of SP 800-38D over AES, with a nonce of 12 bytes and a tag of 16.
use Rattle.std.specs.Prelude.{◌≡◌, ℕ, ◌+◌, ◌-◌, ◌*◌, ◌≤◌, List, [], ◌∷◌, ◌++◌, length, take, drop, slice_index, nat_lt}
use Rattle.std.specs.Prelude.{if◌then◌else◌, Option, Some, None}
use Rattle.std.specs.Int.{w128, from_be_bytes, to_be_bytes}
use Rattle.spec_crypto.specs.ciphers.Aes.{sixteen, block_sum, cipher}
use Rattle.spec_crypto.specs.ciphers.Blocks.{big_byte, masked}
use Rattle.spec_crypto.specs.ciphers.Cmac.{zeros}
use Rattle.spec_crypto.specs.ciphers.Ghash.{ghash}

-- the nonce and a number in 4 bytes (6.2, inc32: modulo 2^32)
unfoldable pub counter_block : List ℕ → ℕ → List ℕ
counter_block nonce i = sixteen (λ k. if nat_lt k 12 then slice_index nonce k else big_byte 4 i (k - 12))

-- H (7.1, step 1)
unfoldable pub hash_key : List (List ℕ) → ℕ
hash_key ws = from_be_bytes w128 (cipher ws zeros)

-- the text under the counter blocks from 2 on (7.1, step 3)
abbrev pub ciphertext : List (List ℕ) → List ℕ → List ℕ → List ℕ
ciphertext ws nonce text = masked ws (λ i. counter_block nonce (i + 2)) text (length text)

-- the tag: the hash under the counter block 1 (7.1, steps 2 and 6)
abbrev pub tag_of : List (List ℕ) → List ℕ → List ℕ → List ℕ → List ℕ
tag_of ws nonce added sealed_text =
    block_sum (to_be_bytes w128 (ghash (hash_key ws) added sealed_text)) (cipher ws (counter_block nonce 1))

-- GCM's encryption: the ciphertext and then the tag (7.1)
unfoldable pub sealed : List (List ℕ) → List ℕ → List ℕ → List ℕ → List ℕ
sealed ws nonce added text = ciphertext ws nonce text ++ tag_of ws nonce added (ciphertext ws nonce text)

-- the text under a ciphertext is masked once more (7.2)
abbrev pub plaintext : List (List ℕ) → List ℕ → List ℕ → List ℕ
plaintext ws nonce masked_text = ciphertext ws nonce masked_text

-- GMAC: the tag over the message as additional data, with no text (section 3 and 7.1)
abbrev pub gmac : List (List ℕ) → List ℕ → List ℕ → List ℕ
gmac ws nonce message = tag_of ws nonce message []

-- what stands before the tag, and the tag
abbrev pub text_part : List ℕ → List ℕ
text_part s = take (length s - 16) s

abbrev pub tag_part : List ℕ → List ℕ
tag_part s = drop (length s - 16) s

-- there is a whole tag, and it is the one of what stands before it (7.2, steps 1 to 8)
pub record IsAuthentic (ws : List (List ℕ)) (nonce added s : List ℕ) : Type 0 where
  pub whole : 16 ≤ length s
  pub tag : tag_part s ≡ tag_of ws nonce added (text_part s)

-- GCM's decryption: the text where the tag is right, and nothing otherwise (7.2)
abbrev pub Opens : List (List ℕ) → List ℕ → List ℕ → List ℕ → Option (List ℕ) → Type 0
Opens ws nonce added s (Some text) = IsAuthentic ws nonce added s × (text ≡ plaintext ws nonce (text_part s))
Opens ws nonce added s None = ¬ IsAuthentic ws nonce added s
