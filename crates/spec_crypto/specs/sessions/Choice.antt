-- What a server chooses from a client's lists (MS-SMB2 3.3.5.4): of ciphers AES-128-CCM 1, AES-128-GCM 2, AES-256-CCM 3 and
-- AES-256-GCM 4 (2.2.3.1.2), of signing algorithms AES-CMAC 1 and AES-GMAC 2 (2.2.3.1.7).
use Rattle.std.specs.Prelude.{ℕ, ◌==◌, nat_le, Bool, true, false, ◌&&◌, ◌||◌, if◌then◌else◌, List, [], ◌∷◌, Option}
use Rattle.std.specs.Prelude.{Some, None, Result, Ok, Err}
use Rattle.spec_crypto.specs.declared.sessions.choice.Chosen.{Chosen}
use Rattle.spec_crypto.specs.declared.sessions.choice.ChooseError.{ChooseError}
use Rattle.spec_crypto.specs.declared.sessions.choice.ChooseError.TheVariants.{NoPreauth, NoHash}

abbrev pub is_cipher : ℕ → Bool
is_cipher c = nat_le 1 c && nat_le c 4

abbrev pub is_signing : ℕ → Bool
is_signing s = (s == 1) || (s == 2)

-- the first cipher of the list that is known, or none
unfoldable pub cipher_of : List ℕ → ℕ
cipher_of [] = 0
cipher_of (c ∷ cs) = if is_cipher c then c else cipher_of cs

-- the first signing algorithm of the list that is known
unfoldable pub signing_of : List ℕ → Option ℕ
signing_of [] = None
signing_of (s ∷ ss) = if is_signing s then Some s else signing_of ss

-- the algorithm that is told, or AES-CMAC, which then isn't
abbrev pub chosen_with : ℕ → Option ℕ → Chosen
chosen_with cipher None = record { cipher = cipher; signing = 1; signing_told = false }
chosen_with cipher (Some s) = record { cipher = cipher; signing = s; signing_told = true }

-- whether there is a preauthentication context, whether it names SHA-512, and the two lists as they were offered
abbrev pub choice : Bool → Bool → List ℕ → List ℕ → Result Chosen ChooseError
choice preauth sha512 ciphers signings =
    if preauth then (if sha512 then Ok (chosen_with (cipher_of ciphers) (signing_of signings)) else Err NoHash) else Err NoPreauth
