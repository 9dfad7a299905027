-- What is sealed (MS-SMB2 2.2.41, 3.1.4.3): a transform header of 52 bytes, FD 'S' 'M' 'B', Signature, Nonce, OriginalMessageSize,
-- Reserved, Flags 1 and SessionId, and the ciphertext. The tag is the Signature, the additional data all behind it.
use Rattle.std.specs.Prelude.{ℕ, ◌+◌, ◌==◌, nat_le, nat_lt, Bool, not, ◌&&◌, ◌||◌, if◌then◌else◌, List, [], ◌∷◌, ◌++◌}
use Rattle.std.specs.Prelude.{length, take, drop, Option, Some, None, Result, Ok, Err}
use Rattle.std.specs.Str.{bytes_eq}
use Rattle.spec_crypto.specs.ciphers.Aes.{schedule}
use Rattle.spec_crypto.specs.ciphers.Gcm
use Rattle.spec_crypto.specs.ciphers.Ccm
use Rattle.spec_wire.specs.messages.Places.{le, number, bytes_at}
use Rattle.spec_crypto.specs.sessions.Derivation.{is_long}
use Rattle.spec_crypto.specs.declared.sessions.material.Keys.{Keys}
use Rattle.spec_crypto.specs.declared.sessions.error.SealError.{SealError}
use Rattle.spec_crypto.specs.declared.sessions.error.SealError.TheVariants.{NotSealed, BadSize, OtherSession, BadTag}

-- the words of the expanded key: ciphers of 128 bits take the first 16 bytes
unfoldable pub words_of : ℕ → List ℕ → List (List ℕ)
words_of cipher key = if is_long cipher then schedule 8 key else schedule 4 (take 16 key)

-- the ciphers 2 and 4; the others are CCM
abbrev pub is_gcm : ℕ → Bool
is_gcm cipher = (cipher == 2) || (cipher == 4)

abbrev pub key_for : Keys → Bool → List ℕ
key_for keys from_client = if from_client then keys.to_server else keys.to_client

-- bytes 20 to 51 of the transform header
abbrev pub added_of : List ℕ → ℕ → ℕ → List ℕ
added_of nonce size session = nonce ++ (le 4 size ++ (le 2 0 ++ (le 2 1 ++ le 8 session)))

abbrev pub protocol : List ℕ
protocol = 0xfd ∷ 0x53 ∷ 0x4d ∷ 0x42 ∷ []

-- under one of the modes: of the nonce's 16 bytes GCM takes 12 and CCM 11; the tag has 16
unfoldable pub ciphertext : ℕ → List ℕ → List ℕ → List ℕ → List ℕ
ciphertext cipher key nonce text =
    if is_gcm cipher then Gcm.ciphertext (words_of cipher key) (take 12 nonce) text else Ccm.ciphertext (words_of cipher
    key) (take 11 nonce) text

-- the tag of a text and its ciphertext: GCM's is the ciphertext's, CCM's the text's
unfoldable pub tag_of : ℕ → List ℕ → List ℕ → List ℕ → List ℕ → List ℕ → List ℕ
tag_of cipher key nonce added text hidden =
    if is_gcm cipher then Gcm.tag_of (words_of cipher key) (take 12 nonce) added hidden else Ccm.tag_of (words_of cipher
    key) (take 11 nonce) added text 16

-- the frame that a text is sealed to
unfoldable pub sealed_by : ℕ → List ℕ → ℕ → List ℕ → List ℕ → List ℕ
sealed_by cipher key session nonce text =
    let added = added_of nonce (length text) session in
    let hidden = ciphertext cipher key nonce text in
    protocol ++ (tag_of cipher key nonce added text hidden ++ (added ++ hidden))

abbrev pub sealed : Keys → Bool → List ℕ → List ℕ → List ℕ
sealed keys from_client nonce text = sealed_by keys.cipher (key_for keys from_client) keys.session nonce text

-- whether a frame begins as a sealed one
unfoldable pub is_sealed : List ℕ → Bool
is_sealed frame = nat_le 52 (length frame) && bytes_eq (bytes_at 4 frame 0) protocol

-- the first cause for which a frame isn't looked into: the size is that of all behind the transform header, at most 1,114,060
unfoldable pub frame_fault : ℕ → List ℕ → Option SealError
frame_fault session frame =
    if not (is_sealed frame) then Some NotSealed
    else if not (number 4 frame 36 + 52 == length frame) || nat_lt 1114060 (number 4 frame 36) then Some (BadSize (number 4 frame 36))
    else if number 8 frame 44 == session then None
    else Some (OtherSession (number 8 frame 44))

-- what a text is hidden as is shown by hiding it once more
abbrev pub shown : ℕ → List ℕ → List ℕ → List ℕ
shown cipher key frame = ciphertext cipher key (bytes_at 16 frame 20) (drop 52 frame)

unfoldable pub tag_is_right : ℕ → List ℕ → List ℕ → Bool
tag_is_right cipher key frame =
    bytes_eq (bytes_at 16 frame 4) (tag_of cipher key (bytes_at 16 frame 20) (bytes_at 32 frame 20) (shown cipher key
    frame) (drop 52 frame))

abbrev pub if_whole : Option SealError → Result (List ℕ) SealError → Result (List ℕ) SealError
if_whole (Some e) r = Err e
if_whole None r = r

-- the message in a frame, or the first cause for which it isn't given
unfoldable pub unsealed_by : ℕ → List ℕ → ℕ → List ℕ → Result (List ℕ) SealError
unsealed_by cipher key session frame =
    if_whole (frame_fault session frame) (if tag_is_right cipher key frame then Ok (shown cipher key frame) else Err BadTag)

abbrev pub unsealed : Keys → Bool → List ℕ → Result (List ℕ) SealError
unsealed keys from_client frame = unsealed_by keys.cipher (key_for keys from_client) keys.session frame

abbrev pub if_given : Result (List ℕ) SealError → Option (List ℕ)
if_given (Ok text) = Some text
if_given (Err e) = None

-- the same where no one asks for the cause
abbrev pub opened : Keys → Bool → List ℕ → Option (List ℕ)
opened keys from_client frame = if_given (unsealed keys from_client frame)
