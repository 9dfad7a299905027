-- The search among users from the front.
use Rattle.std.proofs.Common.{◌≡◌, ℕ, ◌+◌, ◌<◌, ◌≤◌, Bool, true, false, if◌then◌else◌, List, length}
use Rattle.std.proofs.Common.{get_or, drop, map, sym, ◌∙◌, ap, Option, Some, None}
use Rattle.std.proofs.lemmas.List.{at_drop_more, at_drop_all, get_or_default}
use Rattle.std.specs.Str.{bytes_eq}
use Rattle.spec_crypto.specs.tokens.Formulas.{utf16, upper}
use Rattle.spec_crypto.specs.tokens.Acceptor.{User, is_named, user_named}
use Rattle.crypto_sessions.specs.ntlmv2.Judging.{user_of, first_found, IsLogonPlace}

-- the first user of a name from place k on
abbrev named_from : List ℕ → List (List ℕ × List ℕ) → Option User
named_from name users = user_named name (map user_of users)

at_place : (name : List ℕ) (users : List (List ℕ × List ℕ)) (k : ℕ) (d : List ℕ × List ℕ) → k < length users →
    named_from name (drop k users) ≡ (if is_named name (get_or users k d).0 then Some (user_of (get_or users k d)) else
    named_from name (drop (k + 1) users))
unfolding user_named
at_place name users k d lt = at_drop_more (named_from name) users k d lt

-- what was compared, in the words of the definition
pub compared : (name told str : List ℕ) (users : List (List ℕ × List ℕ)) (k : ℕ) (item d : List ℕ × List ℕ) (b : Bool) →
    k < length users → told ≡ upper name → str ≡ (get_or users k item).0 → b ≡ bytes_eq told (utf16 (upper str)) →
    bytes_eq (upper name) (utf16 (upper (get_or users k d).0)) ≡ b
compared name told str users k item d b lt t s e = rw (get_or_default users k d item lt, ← s, ← t) (sym e)

pub found : (name : List ℕ) (users : List (List ℕ × List ℕ)) (k : ℕ) (d : List ℕ × List ℕ) → k < length users →
    named_from name (drop k users) ≡ named_from name users → bytes_eq (upper name) (utf16 (upper (get_or users k d).0))
    ≡ true → named_from name users ≡ Some (user_of (get_or users k d))
unfolding is_named
found name users k d lt h e = sym h ∙ at_place name users k d lt ∙ ap (λ (b : Bool). if b then Some (user_of (get_or
    users k d)) else named_from name (drop (k + 1) users)) e

pub passed : (name : List ℕ) (users : List (List ℕ × List ℕ)) (k : ℕ) (d : List ℕ × List ℕ) → k < length users →
    named_from name (drop k users) ≡ named_from name users → bytes_eq (upper name) (utf16 (upper (get_or users k d).0))
    ≡ false → named_from name (drop (k + 1) users) ≡ named_from name users
unfolding is_named
passed name users k d lt h e = sym (at_place name users k d lt ∙ ap (λ (b : Bool). if b then Some (user_of (get_or users
    k d)) else named_from name (drop (k + 1) users)) e) ∙ h

pub none_left : (name : List ℕ) (users : List (List ℕ × List ℕ)) (k : ℕ) → length users ≤ k → named_from name (drop k
    users) ≡ named_from name users → named_from name users ≡ None
unfolding user_named
none_left name users k le h = sym h ∙ at_drop_all (named_from name) users k le

-- what is known of the first user of a name once the places below k were looked at
abbrev pub SoFar : List ℕ → List (List ℕ × List ℕ) → ℕ → Option ℕ → Type 0
SoFar name users k None = named_from name (drop k users) ≡ named_from name users
SoFar name users k (Some j) = IsLogonPlace users name (Some j)

pub one_more : (name : List ℕ) (users : List (List ℕ × List ℕ)) (k : ℕ) (place : Option ℕ) (b : Bool) (item : List ℕ ×
    List ℕ) → k < length users → SoFar name users k place → ((d : List ℕ × List ℕ) → bytes_eq (upper name) (utf16 (upper
    (get_or users k d).0)) ≡ b) → SoFar name users (k + 1) (first_found place b k)
one_more name users k (Some j) b item lt h e = h
one_more name users k None true item lt h e = (lt, λ d. found name users k d lt h (e d))
one_more name users k None false item lt h e = passed name users k item lt h (e item)

pub all_seen : (name : List ℕ) (users : List (List ℕ × List ℕ)) (k : ℕ) (place : Option ℕ) → length users ≤ k → SoFar name
    users k place → IsLogonPlace users name place
all_seen name users k (Some j) le h = h
all_seen name users k None le h = none_left name users k le h
