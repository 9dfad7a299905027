-- NTLMv2's formulas (MS-NLMP 3.3.2, 3.4.2, 3.4.4.2, 3.4.5): on byte lists, text as its UTF-8 bytes.
use Rattle.std.specs.Prelude.{ℕ, ◌+◌, ◌-◌, ◌/◌, ◌%◌, nat_lt, Bool, if◌then◌else◌, List, [], ◌∷◌, ◌++◌, take, drop, replicate, map, codes}
use Rattle.std.specs.Char.{to_ascii_uppercase}
use Rattle.std.specs.Str.{chars}
use Rattle.md5.specs.Md5.{md5}
use Rattle.spec_crypto.specs.ciphers.Md4.{md4}
use Rattle.spec_crypto.specs.ciphers.Rc4.{opened, enciphered}
use Rattle.spec_crypto.specs.ciphers.Hmac.{hmac_of_md5}
use Rattle.spec_wire.specs.messages.Places.{le}

-- ---- text

-- a character in UTF-16, the low byte of a unit first
abbrev pub utf16_character : ℕ → List ℕ
utf16_character c =
    if nat_lt c 0x1_0000 then le 2 c else le 2 (0xd800 + (c - 0x1_0000) / 0x400) ++ le 2 (0xdc00 + (c - 0x1_0000) % 0x400)

unfoldable pub utf16_characters : List ℕ → List ℕ
utf16_characters [] = []
utf16_characters (c ∷ cs) = utf16_character c ++ utf16_characters cs

abbrev pub utf16 : List ℕ → List ℕ
utf16 text = utf16_characters (chars text)

-- a to z as A to Z, byte by byte
unfoldable pub upper : List ℕ → List ℕ
upper text = map to_ascii_uppercase text

-- ---- a logon

-- NTOWFv2, with the domain as it stands in the message (3.3.2)
unfoldable pub ntowf_in : List ℕ → List ℕ → List ℕ → List ℕ
ntowf_in password user domain = hmac_of_md5 (md4 (utf16 password)) (utf16 (upper user) ++ domain)

abbrev pub ntowf : List ℕ → List ℕ → List ℕ → List ℕ
ntowf password user domain = ntowf_in password user (utf16 domain)

-- NTProofStr, over the server's challenge and all behind the proof in the response
unfoldable pub proof : List ℕ → List ℕ → List ℕ → List ℕ
proof key challenge temp = hmac_of_md5 key (challenge ++ temp)

-- SessionBaseKey
unfoldable pub base_key : List ℕ → List ℕ → List ℕ
base_key key nt_proof = hmac_of_md5 key nt_proof

-- temp: versions 1 and 1, six zeros, the time, the client's challenge, four zeros, the target information and four zeros
abbrev pub temp : List ℕ → List ℕ → List ℕ → List ℕ
temp time challenge info = 1 ∷ 1 ∷ (replicate 6 0 ++ (time ++ (challenge ++ (replicate 4 0 ++ (info ++ replicate 4 0)))))

-- RC4 of a key under another one, both ways (3.1.5.1.2, 3.2.5.1.2)
unfoldable pub exchanged_key : List ℕ → List ℕ → List ℕ
exchanged_key base key = enciphered (opened base) key

-- a type 3 with 16 zeros for its MIC
abbrev pub without_mic : List ℕ → List ℕ
without_mic third = take 72 third ++ (replicate 16 0 ++ drop 88 third)

-- MIC, over the three messages
unfoldable pub mic : List ℕ → List ℕ → List ℕ → List ℕ → List ℕ
mic key first second third = hmac_of_md5 key (first ++ (second ++ without_mic third))

-- ---- signatures of messages, with extended session security and keys of 128 bits

abbrev pub signing_text : Bool → List ℕ
signing_text from_client =
    if from_client then codes "session key to client-to-server signing key magic constant"
    else codes "session key to server-to-client signing key magic constant"

abbrev pub sealing_text : Bool → List ℕ
sealing_text from_client =
    if from_client then codes "session key to client-to-server sealing key magic constant"
    else codes "session key to server-to-client sealing key magic constant"

-- SIGNKEY and SEALKEY (3.4.5.2, 3.4.5.3)
abbrev pub sign_key : List ℕ → Bool → List ℕ
sign_key key from_client = md5 (key ++ (signing_text from_client ++ 0 ∷ []))

abbrev pub seal_key : List ℕ → Bool → List ℕ
seal_key key from_client = md5 (key ++ (sealing_text from_client ++ 0 ∷ []))

-- the first 8 bytes of the HMAC over the sequence number 0 and the list
abbrev pub checksum : List ℕ → Bool → List ℕ → List ℕ
checksum key from_client list = take 8 (hmac_of_md5 (sign_key key from_client) (le 4 0 ++ list))

abbrev pub hidden_checksum : List ℕ → Bool → Bool → List ℕ → List ℕ
hidden_checksum key from_client exchanged list =
    if exchanged then enciphered (opened (seal_key key from_client)) (checksum key from_client list) else checksum key from_client list

-- the mechListMIC: version 1, the checksum, enciphered where a key was exchanged, and the sequence number 0 (3.4.4.2, 2.2.2.9.2)
unfoldable pub mech_list_mic : List ℕ → Bool → Bool → List ℕ → List ℕ
mech_list_mic key from_client exchanged list = le 4 1 ++ (hidden_checksum key from_client exchanged list ++ le 4 0)
