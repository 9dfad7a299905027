-- What is signed (MS-SMB2 3.1.4.1): the whole message, its Signature field, 16 bytes at 48, counting as zeros.
use Rattle.std.specs.Prelude.{ℕ, ◌+◌, ◌%◌, ◌==◌, Bool, if◌then◌else◌, List, ◌++◌, take, drop, replicate}
use Rattle.std.specs.Str.{bytes_eq}
use Rattle.spec_crypto.specs.ciphers.Aes.{schedule}
use Rattle.spec_crypto.specs.ciphers.Cmac.{cmac}
use Rattle.spec_crypto.specs.ciphers.Gcm.{gmac}
use Rattle.spec_wire.specs.messages.Places.{le, number, bytes_at}
use Rattle.spec_crypto.specs.declared.sessions.material.Signer.{Signer}

abbrev pub unsigned : List ℕ → List ℕ
unsigned m = take 48 m ++ (replicate 16 0 ++ drop 64 m)

-- Bit 0 is set in a server's message, which the response flag tells, and bit 1 in a CANCEL, command 12.
abbrev pub role : List ℕ → ℕ
role m = number 1 m 16 % 2 + (if number 2 m 12 == 12 then 2 else 0)

-- GMAC's nonce: the message id, and that in four bytes
abbrev pub signing_nonce : List ℕ → List ℕ
signing_nonce m = bytes_at 8 m 24 ++ le 4 (role m)

-- AES-GMAC for the algorithm 2, else AES-CMAC
unfoldable pub signature : Signer → List ℕ → List ℕ
signature s m =
    if s.algorithm == 2 then gmac (schedule 4 s.key) (signing_nonce m) (unsigned m) else cmac (schedule 4 s.key) (unsigned m)

-- the message with its signature in its field
unfoldable pub signed : Signer → List ℕ → List ℕ
signed s m = take 48 m ++ (signature s m ++ drop 64 m)

-- its Signature field is its signature
unfoldable pub verifies : Signer → List ℕ → Bool
verifies s m = bytes_eq (bytes_at 16 m 48) (signature s m)
