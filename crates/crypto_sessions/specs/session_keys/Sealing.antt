-- What sealing takes and leaves.
use Rattle.std.specs.Prelude.{◌≡◌, ℕ, ◌≤◌, List, ◌++◌, take, drop}
use Rattle.spec_crypto.specs.declared.sessions.material.Keys.{Keys}
use Rattle.spec_crypto.specs.sessions.Sealing.{ciphertext, tag_of}

-- the keys are for one of the four ciphers
pub record HasCipher (keys : Keys) : Type 0 where
  pub least : 1 ≤ keys.cipher
  pub most : keys.cipher ≤ 4

-- a transform header of 52 bytes with the tag in it, at 4, and what the text behind it is hidden as
abbrev pub SealsBehind : ℕ → List ℕ → List ℕ → List ℕ → List ℕ → List ℕ → Type 0
SealsBehind cipher key nonce added old new =
    let hidden = ciphertext cipher key nonce (drop 52 old) in
    new ≡ take 4 old ++ (tag_of cipher key nonce added (drop 52 old) hidden ++ (take 32 (drop 20 old) ++ hidden))
