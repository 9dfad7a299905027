-- CCM of SP 800-38C over AES, with the formatting and the counter blocks of its appendix A.
-- The nonce has n bytes, 7 to 13; the text's length stands in q = 15 - n bytes; the tag has t bytes, 4, 6 .. 16.
use Rattle.std.specs.Prelude.{◌≡◌, ℕ, ◌+◌, ◌-◌, ◌*◌, ◌/◌, ◌%◌, ◌^◌, ◌≤◌, ◌<◌, List, [], ◌∷◌, ◌++◌, length, take, drop}
use Rattle.std.specs.Prelude.{slice_index, nat_lt, nat_le, ◌==◌, if◌then◌else◌, Option, Some, None}
use Rattle.spec_crypto.specs.ciphers.Aes.{sixteen, cipher}
use Rattle.spec_crypto.specs.ciphers.Blocks.{big_byte, block_count, chained, masked}

-- a first byte, the nonce, and a number in the q bytes behind it
unfoldable pub nonce_block : ℕ → List ℕ → ℕ → List ℕ
nonce_block first nonce n =
    sixteen (λ k. if k == 0 then first else if nat_le k (length nonce) then slice_index nonce (k - 1) else big_byte
    (15 - length nonce) n (k - 1 - length nonce))

-- the flags of the first block: whether there is additional data, (t - 2) / 2 in three bits, q - 1 in three bits (A.2.1)
abbrev pub flags : List ℕ → List ℕ → ℕ → ℕ
flags nonce added tag = (if length added == 0 then 0 else 64) + 8 * ((tag - 2) / 2) + (14 - length nonce)

-- block 0: flags, nonce and the text's length (A.2.1)
abbrev pub first_block : List ℕ → List ℕ → List ℕ → ℕ → List ℕ
first_block nonce added text tag = nonce_block (flags nonce added tag) nonce (length text)

-- the length of the additional data, in 2, 6 or 10 bytes (A.2.2)
unfoldable pub length_prefix : ℕ → List ℕ
length_prefix a =
    if nat_lt a 65280 then big_byte 2 a 0 ∷ big_byte 2 a 1 ∷ []
    else if nat_lt a (2 ^ 32) then 255 ∷ 254 ∷ big_byte 4 a 0 ∷ big_byte 4 a 1 ∷ big_byte 4 a 2 ∷ big_byte 4 a 3 ∷ []
    else 255 ∷ 255 ∷ big_byte 8 a 0 ∷ big_byte 8 a 1 ∷ big_byte 8 a 2 ∷ big_byte 8 a 3 ∷ big_byte 8 a 4 ∷ big_byte 8 a 5
    ∷ big_byte 8 a 6 ∷ big_byte 8 a 7 ∷ []

-- what stands for the additional data: nothing, or its length and itself (A.2.2)
unfoldable pub prefixed : List ℕ → List ℕ
prefixed added = if length added == 0 then [] else length_prefix (length added) ++ added

-- the chain over block 0, the additional data and the text, each of these two filled with zeros to whole blocks (6.1, steps 1 to 4)
abbrev pub mac : List (List ℕ) → List ℕ → List ℕ → List ℕ → ℕ → List ℕ
mac ws nonce added text tag =
    let begun = cipher ws (first_block nonce added text tag) in
    let behind_added = chained ws begun (prefixed added) (block_count (prefixed added)) in
    chained ws behind_added text (block_count text)

-- counter block i: q - 1, the nonce and i (A.3)
abbrev pub counter_block : List ℕ → ℕ → List ℕ
counter_block nonce i = nonce_block (14 - length nonce) nonce i

-- the text under counter blocks 1, 2 .. (6.1, steps 5 to 8)
abbrev pub ciphertext : List (List ℕ) → List ℕ → List ℕ → List ℕ
ciphertext ws nonce text = masked ws (λ i. counter_block nonce (i + 1)) text (length text)

-- the tag: the first t bytes of the chain, under counter block 0
abbrev pub tag_of : List (List ℕ) → List ℕ → List ℕ → List ℕ → ℕ → List ℕ
tag_of ws nonce added text tag = masked ws (λ i. counter_block nonce i) (mac ws nonce added text tag) tag

-- CCM's encryption: the ciphertext and then the tag (6.1)
unfoldable pub sealed : List (List ℕ) → List ℕ → List ℕ → List ℕ → ℕ → List ℕ
sealed ws nonce added text tag = ciphertext ws nonce text ++ tag_of ws nonce added text tag

-- the text under a ciphertext is masked once more
abbrev pub plaintext : List (List ℕ) → List ℕ → List ℕ → List ℕ
plaintext ws nonce masked_text = ciphertext ws nonce masked_text

-- the lengths that the formatting has room for: of the nonce, of the tag and of the text (A.1)
pub record IsFit (nonce : List ℕ) (text tag : ℕ) : Type 0 where
  pub nonce_long : 7 ≤ length nonce
  pub nonce_short : length nonce ≤ 13
  pub tag_long : 4 ≤ tag
  pub tag_short : tag ≤ 16
  pub tag_even : tag % 2 ≡ 0
  pub text_counted : text < 256 ^ (15 - length nonce)

-- what stands before the tag, and the tag
abbrev pub text_part : List ℕ → ℕ → List ℕ
text_part s tag = take (length s - tag) s

abbrev pub tag_part : List ℕ → ℕ → List ℕ
tag_part s tag = drop (length s - tag) s

-- there is a whole tag, and it is the one of the text under what stands before it (6.2, steps 1 to 10)
pub record IsAuthentic (ws : List (List ℕ)) (nonce added s : List ℕ) (tag : ℕ) : Type 0 where
  pub whole : tag ≤ length s
  pub same : tag_part s tag ≡ tag_of ws nonce added (plaintext ws nonce (text_part s tag)) tag

-- CCM's decryption: the text where the tag is right, and nothing otherwise (6.2)
abbrev pub Opens : List (List ℕ) → List ℕ → List ℕ → List ℕ → ℕ → Option (List ℕ) → Type 0
Opens ws nonce added s tag (Some text) = IsAuthentic ws nonce added s tag × (text ≡ plaintext ws nonce (text_part s tag))
Opens ws nonce added s tag None = ¬ IsAuthentic ws nonce added s tag
