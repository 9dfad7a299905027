-- What unsealing takes and answers.
use Rattle.std.specs.Prelude.{◌≡◌, ℕ, ◌≤◌, Bool, true, false, List, length, take, drop, Result, Ok, Err}
use Rattle.spec_wire.specs.messages.Places.{number, bytes_at}
use Rattle.spec_crypto.specs.declared.sessions.error.SealError.{SealError}
use Rattle.spec_crypto.specs.declared.sessions.error.SealError.TheVariants.{Memory}
use Rattle.spec_crypto.specs.sessions.Sealing.{ciphertext, tag_of}
use Rattle.crypto_sessions.specs.declared.session_keys.sealing.Transform.{Transform}

-- the transform header in front of a frame
pub record UnsealingTells (frame : List ℕ) (t : Transform) : Type 0 where
  pub whole : 52 ≤ length frame
  pub protocol : t.protocol ≡ bytes_at 4 frame 0
  pub tag : t.tag ≡ bytes_at 16 frame 4
  pub nonce : t.nonce ≡ bytes_at 16 frame 20
  pub size : t.size ≡ number 4 frame 36
  pub session : t.session ≡ number 8 frame 44

-- the text where the tag is the definition's, and else the ciphertext as it was
abbrev pub ShowsText : ℕ → List ℕ → List ℕ → List ℕ → List ℕ → List ℕ → List ℕ → Bool → Type 0
ShowsText cipher key nonce added tag old new true = (tag ≡ tag_of cipher key nonce added new old) × (new ≡ ciphertext cipher key nonce old)
ShowsText cipher key nonce added tag old new false = ¬ (tag ≡ tag_of cipher key nonce added (ciphertext cipher key nonce
    old) old) × (new ≡ old)

-- the message or the cause that is due, or no memory for the message
abbrev pub Unseals : Result (List ℕ) SealError → Result (List ℕ) SealError → Type 0
Unseals due (Ok text) = due ≡ Ok text
Unseals due (Err Memory) = Unit {0}
Unseals due (Err e) = due ≡ Err e

-- the message behind a header that stays, or the cause that is due, which leaves all as it was
abbrev pub UnsealsInPlace : Result (List ℕ) SealError → List ℕ → List ℕ → Result Unit SealError → Type 0
UnsealsInPlace due old new (Ok done) = (due ≡ Ok (drop 52 new)) × (take 52 new ≡ take 52 old)
UnsealsInPlace due old new (Err e) = (due ≡ Err e) × (new ≡ old)
