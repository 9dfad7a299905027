-- The client's side of NTLMv2 (MS-NLMP 3.1.5.1): its type 1, and the type 3 that answers a type 2, with a key that it exchanges and a MIC.
use Rattle.std.specs.Prelude.{ℕ, nat_lt, Bool, ◌&&◌, if◌then◌else◌, List, [], ◌++◌, length, take, replicate, Option, Some, None}
use Rattle.spec_wire.specs.messages.Places.{le}
use Rattle.spec_crypto.specs.tokens.Pairs.{pair, end_pair, pair_in, end_at}
use Rattle.spec_crypto.specs.tokens.Messages.{Type2Value, Type3Value, type1_spelling, type3_spelling}
use Rattle.spec_crypto.specs.tokens.Formulas.{utf16, ntowf, proof, base_key, temp, exchanged_key, mic}

-- UNICODE 1, request target 4, sign 0x10, NTLM 0x200, extended session security 0x80000, 128 bits 0x20000000, key exchange 0x40000000
abbrev pub client_flags : ℕ
client_flags = 0x6008_0215

unfoldable pub first_message : List ℕ
first_message = type1_spelling (record { flags = client_flags })

-- the server's pairs, behind them pair 6, which says that there is a MIC, and the end
unfoldable pub client_info : List ℕ → List ℕ
client_info info = take (end_at (length info) info) info ++ (pair 6 (le 4 2) ++ end_pair)

abbrev pub time_or_zero : Option (List ℕ) → List ℕ
time_or_zero None = replicate 8 0
time_or_zero (Some time) = take 8 (time ++ replicate 8 0)

-- the time in the server's pair 7
abbrev pub time_in : List ℕ → List ℕ
time_in info = time_or_zero (pair_in (length info) 7 info)

-- a user, and the 8 and 16 random bytes of one logon
pub record Credentials : Type 0 where
  pub user : List ℕ
  pub password : List ℕ
  pub domain : List ℕ
  pub challenge : List ℕ
  pub key : List ℕ

abbrev pub temp_of : Credentials → Type2Value → List ℕ
temp_of c second = temp (time_in second.target_info) c.challenge (client_info second.target_info)

abbrev pub key_of : Credentials → List ℕ
key_of c = ntowf c.password c.user c.domain

abbrev pub proof_of : Credentials → Type2Value → List ℕ
proof_of c second = proof (key_of c) second.challenge (temp_of c second)

-- with a time the LM response is 24 zeros (3.1.5.1.2)
abbrev pub answer_with : Credentials → Type2Value → List ℕ → Type3Value
answer_with c second code = record {
  flags = client_flags;
  lm = replicate 24 0;
  nt = proof_of c second ++ temp_of c second;
  domain = utf16 c.domain;
  user = utf16 c.user;
  workstation = [];
  session_key = exchanged_key (base_key (key_of c) (proof_of c second)) c.key;
  mic = code;
}

-- each part that may be long fits its length field of two bytes
abbrev pub has_room : Type3Value → Bool
has_room v = nat_lt (length v.nt) 65536 && (nat_lt (length v.domain) 65536 && nat_lt (length v.user) 65536)

-- the MIC is over the message with zeros in its place
abbrev pub answer_code : Credentials → List ℕ → List ℕ → Type2Value → List ℕ
answer_code c first second_bytes second = mic c.key first second_bytes (type3_spelling (answer_with c second (replicate 16 0)))

-- the type 3 that answers the type 2 of these bytes and this value
unfoldable pub answer : Credentials → List ℕ → List ℕ → Type2Value → List ℕ
answer c first second_bytes second = type3_spelling (answer_with c second (answer_code c first second_bytes second))

-- the same where its parts have room, and nothing otherwise
unfoldable pub answered : Credentials → List ℕ → List ℕ → Type2Value → Option (List ℕ)
answered c first second_bytes second =
    if has_room (answer_with c second (replicate 16 0)) then Some (answer c first second_bytes second) else None
