-- The acceptor as a value, and what its first call answers.
use Rattle.std.specs.Prelude.{◌≡◌, ℕ, ◌<◌, Bool, true, false, not, ◌||◌, if◌then◌else◌, List, length, take, map, get_or}
use Rattle.std.specs.Prelude.{Option, Some, None, Result, Ok, Err}
use Rattle.std.specs.Str.{bytes_eq}
use Rattle.spec_crypto.specs.declared.tokens.ntlm.NtlmError.{NtlmError}
use Rattle.spec_crypto.specs.declared.tokens.ntlm.NtlmError.TheVariants.{Memory}
use Rattle.spec_crypto.specs.tokens.Acceptor.{User, user_named, challenge, exchanges, owes_mic, proves, exported_key}
use Rattle.spec_crypto.specs.tokens.Messages.{Type3Value}
use Rattle.spec_crypto.specs.tokens.Formulas.{base_key, exchanged_key, mic}

pub record AcceptorState : Type 0 where
  pub first : List ℕ
  pub second : List ℕ
  pub server : List ℕ

-- the challenge's bytes, kept beside the first message and the eight random bytes; or the first message's break
abbrev pub Challenges : List ℕ → List ℕ → ℕ → Result (AcceptorState × List ℕ) NtlmError → Type 0
Challenges first server now (Ok a) = (challenge first server now ≡ Ok a.1) × (a.0 ≡ record { first = first; second = a.1; server = server })
Challenges first server now (Err Memory) = Unit {0}
Challenges first server now (Err e) = challenge first server now ≡ Err e

-- there is a MIC of the three messages, where one is owed
abbrev pub has_mic : List ℕ → List ℕ → List ℕ → List ℕ → Type3Value → Bool
has_mic key first second third v = not (owes_mic v) || bytes_eq v.mic (mic key first second third)

-- a name and a password
abbrev pub user_of : List ℕ × List ℕ → User
user_of p = record { name = p.0; password = p.1 }

-- the exported key behind a response that was made with this key
abbrev pub exported_by : List ℕ → Type3Value → List ℕ
exported_by key v = let base = base_key key (take 16 v.nt) in if exchanges v.flags then exchanged_key base v.session_key else base

-- the exported key where the proof is the user's, and nothing otherwise
abbrev pub IsLogonKey : User → List ℕ → Type3Value → Option (List ℕ) → Type 0
IsLogonKey u server v (Some key) = (proves u server v ≡ true) × (key ≡ exported_key u v)
IsLogonKey u server v None = proves u server v ≡ false

-- where the first user of that name stands
abbrev pub IsLogonPlace : List (List ℕ × List ℕ) → List ℕ → Option ℕ → Type 0
IsLogonPlace users name None = user_named name (map user_of users) ≡ None
IsLogonPlace users name (Some k) = (k < length users) × ((d : List ℕ × List ℕ) → user_named name (map user_of users) ≡ Some
    (user_of (get_or users k d)))

-- the first place that was found, once place k was looked at
abbrev pub first_found : Option ℕ → Bool → ℕ → Option ℕ
first_found (Some j) found k = Some j
first_found None true k = Some k
first_found None false k = None
