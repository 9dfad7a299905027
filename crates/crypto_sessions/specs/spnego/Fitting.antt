-- How many bytes a part has, where it is there.
use Rattle.std.specs.Prelude.{◌≡◌, ℕ, ◌<◌, ◌^◌, true, List, length, Option, Some, None}
use Rattle.spec_crypto.specs.tokens.Spnego.{ntlm_list}
use Rattle.crypto_sessions.specs.declared.spnego.token.InitToken.{InitToken}

abbrev pub size_of : Option (List ℕ) → ℕ
size_of None = 0
size_of (Some bytes) = length bytes

-- the list names NTLMSSP alone, and the other parts have fewer than 2^30 bytes
abbrev pub HasUsualParts : InitToken → Type 0
HasUsualParts t = (t.ntlm_first ≡ true) × (size_of t.token < 2 ^ 30) × (size_of t.mic < 2 ^ 30) × (t.mech_list ≡ ntlm_list)
