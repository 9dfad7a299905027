-- The keys of a session and of its channels, from a logon's exported key and the value of the preauthentication chain
-- (MS-SMB2 3.1.4.2, 3.2.5.3, 3.3.5.5.3).
use Rattle.std.specs.Prelude.{ℕ, ◌==◌, Bool, ◌||◌, if◌then◌else◌, List, [], ◌∷◌}
use Rattle.spec_crypto.specs.ciphers.Kdf.{derived, derived_padded}
use Rattle.spec_crypto.specs.sessions.Choice.{is_cipher}
use Rattle.spec_crypto.specs.declared.sessions.material.Keys.{Keys}

-- `SMBSigningKey`, `SMBC2SCipherKey` and `SMBS2CCipherKey`, each with a closing zero
abbrev pub signing_label : List ℕ
signing_label = 83 ∷ 77 ∷ 66 ∷ 83 ∷ 105 ∷ 103 ∷ 110 ∷ 105 ∷ 110 ∷ 103 ∷ 75 ∷ 101 ∷ 121 ∷ 0 ∷ []

abbrev pub to_server_label : List ℕ
to_server_label = 83 ∷ 77 ∷ 66 ∷ 67 ∷ 50 ∷ 83 ∷ 67 ∷ 105 ∷ 112 ∷ 104 ∷ 101 ∷ 114 ∷ 75 ∷ 101 ∷ 121 ∷ 0 ∷ []

abbrev pub to_client_label : List ℕ
to_client_label = 83 ∷ 77 ∷ 66 ∷ 83 ∷ 50 ∷ 67 ∷ 67 ∷ 105 ∷ 112 ∷ 104 ∷ 101 ∷ 114 ∷ 75 ∷ 101 ∷ 121 ∷ 0 ∷ []

-- the ciphers 3 and 4 have keys of 256 bits, all others of 128
abbrev pub is_long : ℕ → Bool
is_long cipher = (cipher == 3) || (cipher == 4)

abbrev pub cipher_bits : ℕ → ℕ
cipher_bits cipher = if is_long cipher then 256 else 128

-- a signing key, of 128 bits
unfoldable pub signing_key : List ℕ → List ℕ → List ℕ
signing_key base chain = derived base signing_label chain 128

-- the keys that seal to the server and to the client, with zeros behind them up to 32 bytes
unfoldable pub to_server_key : List ℕ → List ℕ → ℕ → List ℕ
to_server_key base chain cipher = derived_padded base to_server_label chain (cipher_bits cipher)

unfoldable pub to_client_key : List ℕ → List ℕ → ℕ → List ℕ
to_client_key base chain cipher = derived_padded base to_client_label chain (cipher_bits cipher)

-- a cipher that isn't known counts as none
abbrev pub known : ℕ → ℕ
known cipher = if is_cipher cipher then cipher else 0

-- the keys of a session on its first channel
abbrev pub keys_of : List ℕ → List ℕ → ℕ → ℕ → ℕ → Keys
keys_of base chain cipher signing session = record {
  signing = record { key = signing_key base chain; algorithm = signing };
  to_server = to_server_key base chain cipher;
  to_client = to_client_key base chain cipher;
  cipher = known cipher;
  session = session;
}

-- A bound channel has the session's keys, but for a signing key of its own: from the exported key of the binding's logon and
-- from its own chain.
abbrev pub bound_keys : List ℕ → List ℕ → Keys → Keys
bound_keys base chain keys = record keys { signing = record { key = signing_key base chain; algorithm = keys.signing.algorithm } }
