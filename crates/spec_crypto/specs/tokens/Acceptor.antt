-- The server's side of NTLMv2 (MS-NLMP 3.2.5.1): the challenge to a type 1, and whether a type 3 is a user's logon.
use Rattle.std.specs.Prelude.{ℕ, zero, suc, ◌/◌, ◌%◌, ◌==◌, nat_lt, nat_le, bit_and, bit_or, Bool, true, false, not}
use Rattle.std.specs.Prelude.{◌&&◌, ◌||◌, if◌then◌else◌, List, [], ◌∷◌, ◌++◌, length, take, drop, slice_index, Option}
use Rattle.std.specs.Prelude.{Some, None, Result, Ok, Err}
use Rattle.std.specs.Str.{bytes_eq}
use Rattle.spec_wire.specs.messages.Places.{le}
use Rattle.spec_crypto.specs.declared.tokens.ntlm.Type1.{Type1}
use Rattle.spec_crypto.specs.declared.tokens.ntlm.NtlmError.{NtlmError}
use Rattle.spec_crypto.specs.declared.tokens.ntlm.LogonError.{LogonError}
use Rattle.spec_crypto.specs.declared.tokens.ntlm.LogonError.TheVariants.{NotAscii, UnknownUser, WrongProof, WrongMic}
use Rattle.spec_crypto.specs.tokens.Pairs.{pair, end_pair, pair_in}
use Rattle.spec_crypto.specs.tokens.Messages.{Type2Value, Type3Value, type1_in, type2_spelling, type3_in}
use Rattle.spec_crypto.specs.tokens.Formulas.{utf16, upper, ntowf_in, proof, base_key, exchanged_key, mic}

-- ---- the challenge

-- request target 4, NTLM 0x200, target is a server 0x20000, target info 0x800000; and of type 1's flags UNICODE 1, sign 0x10, seal 0x20,
-- always sign 0x8000, extended session security 0x80000, 128 bits 0x20000000 and key exchange 0x40000000 (2.2.2.5)
abbrev pub challenge_flags : ℕ → ℕ
challenge_flags flags = bit_or 0x0082_0204 (bit_and flags 0x6008_8031)

-- `SMB311` and `smb311` in UTF-16
abbrev pub large_name : List ℕ
large_name = 83 ∷ 0 ∷ 77 ∷ 0 ∷ 66 ∷ 0 ∷ 51 ∷ 0 ∷ 49 ∷ 0 ∷ 49 ∷ 0 ∷ []

abbrev pub small_name : List ℕ
small_name = 115 ∷ 0 ∷ 109 ∷ 0 ∷ 98 ∷ 0 ∷ 51 ∷ 0 ∷ 49 ∷ 0 ∷ 49 ∷ 0 ∷ []

-- NetBIOS domain 2 and computer 1, DNS domain 4 and computer 3, the time 7
abbrev pub server_info : ℕ → List ℕ
server_info now = pair 2 large_name ++ (pair 1 large_name ++ (pair 4 small_name ++ (pair 3 small_name ++ (pair 7 (le 8 now) ++ end_pair))))

abbrev pub challenge_value : Type1 → List ℕ → ℕ → Type2Value
challenge_value first server now =
    record { flags = challenge_flags first.flags; challenge = server; target_name = large_name; target_info = server_info now }

abbrev pub challenge_to : Result Type1 NtlmError → List ℕ → ℕ → Result (List ℕ) NtlmError
challenge_to (Ok first) server now = Ok (type2_spelling (challenge_value first server now))
challenge_to (Err e) server now = Err e

-- the type 2 that answers a type 1
unfoldable pub challenge : List ℕ → List ℕ → ℕ → Result (List ℕ) NtlmError
challenge first server now = challenge_to (type1_in first) server now

-- ---- the logon

pub record User : Type 0 where
  pub name : List ℕ
  pub password : List ℕ

pub record LogonValue : Type 0 where
  pub user : List ℕ
  pub key : List ℕ
  pub exchanged : Bool

-- byte k of a text in UTF-16 is that of an ASCII character
abbrev pub ascii_byte : List ℕ → ℕ → Bool
ascii_byte bytes k = if k % 2 == 0 then nat_lt (slice_index bytes k) 128 else slice_index bytes k == 0

unfoldable pub ascii_below : List ℕ → ℕ → Bool
ascii_below bytes zero = true
ascii_below bytes (suc k) = ascii_below bytes k && ascii_byte bytes k

-- whole units, each of them ASCII
unfoldable pub is_ascii_utf16 : List ℕ → Bool
is_ascii_utf16 bytes = (length bytes % 2 == 0) && ascii_below bytes (length bytes)

-- equal but for the case of ASCII letters
unfoldable pub is_named : List ℕ → List ℕ → Bool
is_named bytes name = bytes_eq (upper bytes) (utf16 (upper name))

-- the first user of that name
unfoldable pub user_named : List ℕ → List User → Option User
user_named bytes [] = None
user_named bytes (u ∷ us) = if is_named bytes u.name then Some u else user_named bytes us

-- UNICODE, extended session security and 128 bits
abbrev pub has_profile : ℕ → Bool
has_profile flags = bit_and flags 0x2008_0001 == 0x2008_0001

unfoldable pub exchanges : ℕ → Bool
exchanges flags = bit_and flags 0x4000_0000 == 0x4000_0000

-- the flags that are needed, room for a proof and what it is of, and a key of 16 bytes where one is exchanged
unfoldable pub has_form : Type3Value → Bool
has_form v = has_profile v.flags && (nat_le 44 (length v.nt) && (not (exchanges v.flags) || (length v.session_key == 16)))

abbrev pub user_key : User → Type3Value → List ℕ
user_key u v = ntowf_in u.password u.name v.domain

unfoldable pub proves : User → List ℕ → Type3Value → Bool
proves u server v = has_form v && bytes_eq (take 16 v.nt) (proof (user_key u v) server (drop 16 v.nt))

-- the key that both ends have behind the logon
unfoldable pub exported_key : User → Type3Value → List ℕ
exported_key u v =
    let base = base_key (user_key u v) (take 16 v.nt) in if exchanges v.flags then exchanged_key base v.session_key else base

abbrev pub has_mic_bit : Option (List ℕ) → Bool
has_mic_bit None = false
has_mic_bit (Some value) = slice_index value 0 / 2 % 2 == 1

-- pair 6 of the client's target information says so (2.2.2.1, MsvAvFlags)
unfoldable pub owes_mic : Type3Value → Bool
owes_mic v = let info = drop 44 v.nt in has_mic_bit (pair_in (length info) 6 info)

abbrev pub logon_of : User → Type3Value → LogonValue
logon_of u v = record { user = u.name; key = exported_key u v; exchanged = exchanges v.flags }

-- a user's logon, with the three messages
abbrev pub verdict_on : Option User → List ℕ → List ℕ → List ℕ → List ℕ → Type3Value → Result LogonValue LogonError
verdict_on None server first second third v = Err UnknownUser
verdict_on (Some u) server first second third v =
    if not (proves u server v) then Err WrongProof
    else if owes_mic v && not (bytes_eq v.mic (mic (exported_key u v) first second third)) then Err WrongMic
    else Ok (logon_of u v)

abbrev pub verdict_of : List User → List ℕ → List ℕ → List ℕ → List ℕ → Result Type3Value NtlmError → Result LogonValue LogonError
verdict_of users server first second third (Err e) = Err WrongProof
verdict_of users server first second third (Ok v) =
    if is_ascii_utf16 v.user then verdict_on (user_named v.user users) server first second third v else Err NotAscii

-- what a type 3 is worth: a type 3 that doesn't read proves nothing
unfoldable pub verdict : List User → List ℕ → List ℕ → List ℕ → List ℕ → Result LogonValue LogonError
verdict users server first second third = verdict_of users server first second third (type3_in third)
