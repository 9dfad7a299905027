-- How long tokens and their messages are at most.
use Rattle.std.proofs.Common.{◌≡◌, ℕ, ◌+◌, ◌-◌, ◌*◌, ◌/◌, ◌%◌, ◌<◌, ◌≤◌, nat_lt, Bool, true, false, if◌then◌else◌, List, []}
use Rattle.std.proofs.Common.{◌∷◌, ◌++◌, length, length-append, replicate, refl, ap, ◌∙◌, arith, Option, Some, None}
use Rattle.std.proofs.lemmas.Bool.Decides.{nat_tests}
use Rattle.std.proofs.lemmas.List.{length-take}
use Rattle.std.proofs.lemmas.Str.{chars-IsAscii}
use Rattle.std.proofs.lemmas.Str.Ascii.{IsAscii-nil}
use Rattle.std.specs.Str.{IsAscii, chars}
use Rattle.md5.proofs.StandardFacts.{length-md5}
use Rattle.spec_crypto.specs.ciphers.Hmac.{hmac_of_md5}
use Rattle.spec_crypto.specs.ciphers.Rc4.{CipherState, advanced, enciphered, opened}
use Rattle.spec_wire.specs.messages.Places.{le, number_of, bytes_at}
use Rattle.spec_wire.specs.messages.Table.{Field, Num, Raw, Any, with_fields}
use Rattle.spec_wire.proofs.messages.Numbers.{length-le}
use Rattle.spec_crypto.specs.tokens.Der.{length_bytes, spelled}
use Rattle.spec_crypto.specs.tokens.Pairs.{pair_in, end_at}
use Rattle.spec_crypto.specs.tokens.Formulas.{utf16, utf16_character, utf16_characters, proof, temp, exchanged_key, mic, mech_list_mic}
use Rattle.spec_crypto.specs.tokens.Formulas.{base_key, checksum, sign_key, seal_key}
use Rattle.spec_crypto.specs.tokens.Messages.{Type2Value, type2_table, type2_spelling, type3_table, type3_spelling}
use Rattle.spec_crypto.specs.tokens.Acceptor.{server_info, challenge_value}
use Rattle.spec_crypto.specs.tokens.Answer.{Credentials, client_flags, client_info, time_or_zero, time_in, temp_of}
use Rattle.spec_crypto.specs.tokens.Answer.{key_of, proof_of, answer_with}
use Rattle.spec_crypto.specs.tokens.Answer.{first_message, answer_code, answer}
use Rattle.spec_crypto.specs.tokens.Spnego.{RespValue, ntlmssp, octets_spelling, state_spelling, mech_spelling}
use Rattle.spec_crypto.specs.tokens.Spnego.{resp_fields_spelling, resp_spelling}
use Rattle.spec_crypto.specs.tokens.Spnego.{IsWritableResp}
use Rattle.crypto_sessions.specs.spnego.Fitting.{size_of}

-- ---- elements of DER

five : (a b c d : Bool) (p q r s t : List ℕ) → length p ≤ 5 → length q ≤ 5 → length r ≤ 5 → length s ≤ 5 → length t ≤ 5
    → length (if a then p else if b then q else if c then r else if d then s else t) ≤ 5
five true b c d p q r s t h1 h2 h3 h4 h5 = h1
five false true c d p q r s t h1 h2 h3 h4 h5 = h2
five false false true d p q r s t h1 h2 h3 h4 h5 = h3
five false false false true p q r s t h1 h2 h3 h4 h5 = h4
five false false false false p q r s t h1 h2 h3 h4 h5 = h5

length_most : (n : ℕ) → length (length_bytes n) ≤ 5
length_most n =
    five (nat_lt n 0x80) (nat_lt n 0x100) (nat_lt n 0x1_0000) (nat_lt n 0x100_0000) _ _ _ _ _ (omega arith) (omega
    arith) (omega arith) (omega arith) (omega arith)

most : (tag : ℕ) (c : List ℕ) → length (spelled tag c) ≤ length c + 6
unfolding spelled
most tag c = let a = length-append (length_bytes (length c)) c in let b = length_most (length c) in omega arith

octets_most : (tag : ℕ) (o : Option (List ℕ)) → length (octets_spelling tag o) ≤ size_of o + 12
octets_most tag None = omega arith
octets_most tag (Some bytes) = let a = most 4 bytes in let b = most tag (spelled 4 bytes) in omega arith

state_most : (o : Option ℕ) → length (state_spelling o) ≤ 13
state_most None = omega arith
state_most (Some s) = let a = most 0x0a (s ∷ []) in let b = most 0xa0 (spelled 0x0a (s ∷ [])) in omega arith

mech_most : (b : Bool) → length (mech_spelling b) ≤ 22
mech_most true = let a = most 0x06 ntlmssp in let b = most 0xa1 (spelled 0x06 ntlmssp) in omega arith
mech_most false = omega arith

pub resp_most : (v : RespValue) → length (resp_spelling v) ≤ size_of v.token + size_of v.mic + 71
unfolding resp_spelling
resp_most v =
    let state = state_most v.state in
    let mech = mech_most v.ntlm in
    let two = octets_most 0xa2 v.token in
    let three = octets_most 0xa3 v.mic in
    let a = length-append (octets_spelling 0xa2 v.token) (octets_spelling 0xa3 v.mic) in
    let b = length-append (mech_spelling v.ntlm) (octets_spelling 0xa2 v.token ++ octets_spelling 0xa3 v.mic) in
    let c = length-append (state_spelling v.state) (mech_spelling v.ntlm ++ (octets_spelling 0xa2 v.token ++ octets_spelling 0xa3 v.mic)) in
    let sequence = most 0x30 (resp_fields_spelling v) in
    let all = most 0xa1 (spelled 0x30 (resp_fields_spelling v)) in
    omega arith

pub resp_fits : (v : RespValue) → size_of v.token + size_of v.mic ≤ 4096 → IsWritableResp v
resp_fits v few = let all = resp_most v in record { short = omega arith }

-- ---- fields

fields_size : List Field → ℕ
fields_size [] = 0
fields_size (Num w n ∷ fs) = w + fields_size fs
fields_size (Raw w b ∷ fs) = length b + fields_size fs
fields_size (Any w ∷ fs) = w + fields_size fs

length_fields : (out : List ℕ) (fs : List Field) → length (with_fields out fs) ≡ length out + fields_size fs
unfolding fields_size
length_fields out [] = omega arith
length_fields out (Num w n ∷ fs) =
    let a = length_fields (out ++ le w n) fs in let b = length-append out (le w n) in let c = length-le w n in omega arith
length_fields out (Raw w b ∷ fs) = let a = length_fields (out ++ b) fs in let c = length-append out b in omega arith
length_fields out (Any w ∷ fs) =
    let a = length_fields (out ++ le w 0) fs in let b = length-append out (le w 0) in let c = length-le w 0 in omega arith

-- ---- the server's challenge, of 148 bytes

-- the challenge to the client's own type 1
abbrev pub own_challenge : List ℕ → ℕ → Type2Value
own_challenge server now = challenge_value (record { flags = client_flags }) server now

info_size : (now : ℕ) → length (server_info now) ≡ 80
unfolding le
info_size now = refl

pub second_size : (server : List ℕ) (now : ℕ) → length server ≡ 8 → length (type2_spelling (own_challenge server now)) ≡ 148
unfolding type2_spelling fields_size
second_size server now eight =
    let a = length_fields [] (type2_table (own_challenge server now)) in let b = info_size now in omega arith

-- ---- the client's answer

character_by : (b : Bool) (c high low : ℕ) → length (if b then le 2 c else le 2 high ++ le 2 low) ≤ 4
character_by true c high low = let a = length-le 2 c in omega arith
character_by false c high low =
    let a = length-append (le 2 high) (le 2 low) in let b = length-le 2 high in let d = length-le 2 low in omega arith

characters_most : (cs : List ℕ) → length (utf16_characters cs) ≤ 4 * length cs
unfolding utf16_characters
characters_most [] = omega arith
characters_most (c ∷ cs) =
    let a = length-append (utf16_character c) (utf16_characters cs) in
    let b : length (utf16_character c) ≤ 4 =
    character_by (nat_lt c 0x1_0000) c (0xd800 + (c - 0x1_0000) / 0x400) (0xdc00 + (c - 0x1_0000) % 0x400) in
    let rest = characters_most cs in
    omega arith

pub name_most : (name : List ℕ) → IsAscii name → length (utf16 name) ≤ 4 * length name
name_most name ascii = let a = characters_most (chars name) in let b = ap length (chars-IsAscii name ascii) in omega arith

no_domain : length (utf16 []) ≡ 0
no_domain = let a = name_most [] IsAscii-nil in omega arith

length-enciphered : (s : CipherState) (xs : List ℕ) → length (enciphered s xs) ≡ length xs
length-enciphered s [] = refl
length-enciphered s (x ∷ xs) = let rest = length-enciphered (advanced s) xs in omega arith

length-exchanged : (base key : List ℕ) → length (exchanged_key base key) ≡ length key
unfolding exchanged_key
length-exchanged base key = length-enciphered (opened base) key

length-proof : (key challenge text : List ℕ) → length (proof key challenge text) ≡ 16
unfolding proof
length-proof key challenge text = length-md5 _

length-mic : (key first second third : List ℕ) → length (mic key first second third) ≡ 16
unfolding mic
length-mic key first second third = length-md5 _

length-time : (o : Option (List ℕ)) → length (time_or_zero o) ≡ 8
length-time None = refl
length-time (Some time) = omega (arith, length-take 8 (time ++ replicate 8 0), length-append time (replicate 8 0))

own_info_size : (now : ℕ) → length (client_info (server_info now)) ≡ 88
unfolding client_info end_at le bytes_at number_of
own_info_size now = refl

temp_size : (time challenge info : List ℕ) → length time ≡ 8 → length challenge ≡ 8 → length info ≡ 88
    → length (temp time challenge info) ≡ 120
temp_size time challenge info lt lc li =
    let four : List ℕ = replicate 4 0 in
    let a = length-append info four in
    let b = length-append four (info ++ four) in
    let c = length-append challenge (four ++ (info ++ four)) in
    let d = length-append time (challenge ++ (four ++ (info ++ four))) in
    let e : length four ≡ 4 = refl in
    omega arith

-- the response to the challenge: a proof of 16 bytes and what it is of
pub response_size : (c : Credentials) (server code : List ℕ) (now : ℕ) → length c.challenge ≡ 8
    → length (answer_with c (own_challenge server now) code).nt ≡ 136
response_size c server code now eight =
    let v = own_challenge server now in
    let a = length-append (proof_of c v) (temp_of c v) in
    let b = length-proof (key_of c) v.challenge (temp_of c v) in
    let d = temp_size (time_in v.target_info) c.challenge (client_info v.target_info)
    (length-time (pair_in (length v.target_info) 7 v.target_info)) eight (own_info_size now) in
    omega arith

-- the client's logon: random bytes, and a name that isn't long
pub record IsUsed (c : Credentials) : Type 0 where
  pub challenge : length c.challenge ≡ 8
  pub key : length c.key ≡ 16
  pub ascii : IsAscii c.user
  pub short : length c.user ≤ 256
  pub domain : c.domain ≡ []

domain_size : (c : Credentials) → IsUsed c → length (utf16 c.domain) ≡ 0
domain_size c used = ap (λ d. length (utf16 d)) used.domain ∙ no_domain

answer_most : (c : Credentials) (server code : List ℕ) (now : ℕ) → IsUsed c → length code ≡ 16
    → length (type3_spelling (answer_with c (own_challenge server now) code)) ≤ 1304
unfolding type3_spelling fields_size
answer_most c server code now used sixteen =
    let v = own_challenge server now in
    let w = answer_with c v code in
    let a = length_fields [] (type3_table w) in
    let b = response_size c server code now used.challenge in
    let d = domain_size c used in
    let e = name_most c.user used.ascii in
    let f = length-exchanged (base_key (key_of c) (proof_of c v)) c.key in
    let g : length w.lm ≡ 24 = refl in
    let i = used.key in
    let j = used.short in
    omega arith

pub third_most : (c : Credentials) (server : List ℕ) (now : ℕ) → IsUsed c →
    length (answer c first_message (type2_spelling (own_challenge server now)) (own_challenge server now)) ≤ 1304
unfolding answer
third_most c server now used =
    let v = own_challenge server now in
    answer_most c server (answer_code c first_message (type2_spelling v) v) now used
    (length-mic c.key first_message (type2_spelling v) (type3_spelling (answer_with c v (replicate 16 0))))

low : (n k : ℕ) → n < k → nat_lt n k ≡ true
low n k h = grind (arith, nat_tests)

-- each part of it has room in its field
pub rooms : (c : Credentials) (server code : List ℕ) (now : ℕ) → IsUsed c →
    (nat_lt (length (answer_with c (own_challenge server now) code).nt) 65536 ≡ true)
    × (nat_lt (length (utf16 c.domain)) 65536 ≡ true) × (nat_lt (length (utf16 c.user)) 65536 ≡ true)
rooms c server code now used =
    let a = response_size c server code now used.challenge in
    let b = domain_size c used in
    let d = name_most c.user used.ascii in
    let e = used.short in (
      low (length (answer_with c (own_challenge server now) code).nt) 65536 (omega arith),
      low (length (utf16 c.domain)) 65536 (omega arith),
      low (length (utf16 c.user)) 65536 (omega arith),
    )

-- ---- the MIC over the list, of at most 16 bytes

checksum_most : (key list : List ℕ) (from_client : Bool) → length (checksum key from_client list) ≤ 8
checksum_most key list from_client = omega (arith, length-take 8 (hmac_of_md5 (sign_key key from_client) (le 4 0 ++ list)))

pub code_most : (key list : List ℕ) (from_client : Bool) → length (mech_list_mic key from_client true list) ≤ 16
unfolding mech_list_mic
code_most key list from_client =
    let sum = checksum key from_client list in
    let hidden = enciphered (opened (seal_key key from_client)) sum in
    let a = length-append (le 4 1) (hidden ++ le 4 0) in
    let b = length-append hidden (le 4 0) in
    let c = length-le 4 1 in
    let d = length-le 4 0 in
    let e = length-enciphered (opened (seal_key key from_client)) sum in
    let f = checksum_most key list from_client in
    omega arith
