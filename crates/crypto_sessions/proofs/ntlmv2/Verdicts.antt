-- The verdict on a type 3, case by case, and the challenge to a type 1 that doesn't read.
use Rattle.std.proofs.Common.{◌≡◌, ℕ, Bool, true, false, not, ◌&&◌, ◌||◌, List, refl, Option, Some, Ok, Err}
use Rattle.std.specs.Str.{bytes_eq}
use Rattle.spec_crypto.specs.declared.tokens.ntlm.NtlmError.{NtlmError}
use Rattle.spec_crypto.specs.declared.tokens.ntlm.NtlmError.TheVariants as ntlm
use Rattle.spec_crypto.specs.declared.tokens.ntlm.LogonError.TheVariants.{NotAscii, WrongProof, WrongMic}
use Rattle.spec_crypto.specs.tokens.Formulas.{mic}
use Rattle.spec_crypto.specs.tokens.Messages.{Type3Value, type1_in, type3_in}
use Rattle.spec_crypto.specs.tokens.Acceptor.{User, challenge, is_ascii_utf16, user_named, proves, exported_key, owes_mic}
use Rattle.spec_crypto.specs.tokens.Acceptor.{logon_of, verdict_on, verdict}
use Rattle.crypto_sessions.specs.ntlmv2.Judging.{Challenges, has_mic}

mic_lacks : (o e : Bool) → (not o || e) ≡ false → (o && not e) ≡ true
mic_lacks true false h = refl
mic_lacks true true h = absurd cc
mic_lacks false e h = absurd cc

mic_there : (o e : Bool) → (not o || e) ≡ true → (o && not e) ≡ false
mic_there true true h = refl
mic_there true false h = absurd cc
mic_there false e h = refl

pub wrong_proof : (u : User) (server first second third : List ℕ) (v : Type3Value) → proves u server v ≡ false →
    verdict_on (Some u) server first second third v ≡ Err WrongProof
wrong_proof u server first second third v p = rw p refl

pub wrong_mic : (u : User) (server first second third : List ℕ) (v : Type3Value) → proves u server v ≡ true → has_mic
    (exported_key u v) first second third v ≡ false → verdict_on (Some u) server first second third v ≡ Err WrongMic
wrong_mic u server first second third v p h = rw (
  p,
  mic_lacks (owes_mic v) (bytes_eq v.mic (mic (exported_key u v)
      first second third)) h,
) refl

pub logged_on : (u : User) (server first second third : List ℕ) (v : Type3Value) → proves u server v ≡ true → has_mic
    (exported_key u v) first second third v ≡ true → verdict_on (Some u) server first second third v ≡ Ok (logon_of u v)
logged_on u server first second third v p h = rw (
  p,
  mic_there (owes_mic v) (bytes_eq v.mic (mic (exported_key u v)
      first second third)) h,
) refl

pub unread : (users : List User) (server first second third : List ℕ) (e : NtlmError) → type3_in third ≡ Err e → verdict
    users server first second third ≡ Err WrongProof
unfolding verdict
unread users server first second third e h = rw h refl

pub not_ascii : (users : List User) (server first second third : List ℕ) (v : Type3Value) → type3_in third ≡ Ok v →
    is_ascii_utf16 v.user ≡ false → verdict users server first second third ≡ Err NotAscii
unfolding verdict
not_ascii users server first second third v h a = rw (h, a) refl

pub of_user : (users : List User) (server first second third : List ℕ) (v : Type3Value) (u : Option User) → type3_in
    third ≡ Ok v → is_ascii_utf16 v.user ≡ true → user_named v.user users ≡ u → verdict users server first second third
    ≡ verdict_on u server first second third v
unfolding verdict
of_user users server first second third v u h a n = rw (h, a, n) refl

pub unchallenged : (first server : List ℕ) (now : ℕ) (e : NtlmError) → type1_in first ≡ Err e → Challenges first server now (Err e)
unfolding challenge
unchallenged first server now ntlm.Memory h = tt
unchallenged first server now ntlm.BadSignature h = rw h refl
unchallenged first server now (ntlm.BadType n) h = rw h refl
unchallenged first server now (ntlm.OutOfRange f) h = rw h refl
unchallenged first server now (ntlm.BadPairs n) h = rw h refl
