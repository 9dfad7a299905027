-- The users from a place on.
use Rattle.std.proofs.Common.{◌≡◌, ℕ, ◌+◌, ◌<◌, Bool, List, [], ◌∷◌, ◌++◌, length, drop, get_or, append_assoc, sym, ap, ◌∙◌}
use Rattle.std.proofs.lemmas.List.{drop_more}
use Rattle.script_words.specs.declared.values.User.{User as Given}
use Rattle.spec_crypto.specs.tokens.Acceptor.{User}
use Rattle.spec_crypto.specs.tokens.Tokens.{Users}
use Rattle.serve_command.specs.server_settings.Settings.{user_of, users_of}

from_there : (us : List Given) (i : ℕ) (u : Given) → i < length us → u ≡ get_or us i u
    → users_of (drop i us) ≡ user_of u ∷ users_of (drop (i + 1) us)
from_there us i u less item =
    ap (λ (xs : List Given). users_of xs) (drop_more us i u less)
    ∙ ap (λ (x : Given). user_of x ∷ users_of (drop (i + 1) us)) (sym item)

list_on : (us : List Given) (i : ℕ) (u : Given) (list list' : List User) → i < length us → u ≡ get_or us i u
    → list' ≡ list ++ user_of u ∷ [] → list ++ users_of (drop i us) ≡ users_of us → list' ++ users_of (drop (i + 1) us) ≡ users_of us
list_on us i u list list' less item grown was =
    ap (λ (xs : List User). xs ++ users_of (drop (i + 1) us)) grown
    ∙ (append_assoc list (user_of u ∷ []) (users_of (drop (i + 1) us))
    ∙ (ap (λ (xs : List User). list ++ xs) (sym (from_there us i u less item)) ∙ was))

pub users_on : (us : List Given) (i : ℕ) (u : Given) (bare : Bool) (old new : Users) → i < length us → u ≡ get_or us i u
    → new ≡ record old { list = old.list ++ user_of u ∷ [] } → (old.list ++ users_of (drop i us) ≡ users_of us) × (old.bare ≡ bare)
    → (new.list ++ users_of (drop (i + 1) us) ≡ users_of us) × (new.bare ≡ bare)
users_on us i u bare old new less item grown was =
    (list_on us i u old.list new.list less item (ap (λ (x : Users). x.list) grown) was.0, ap (λ (x : Users). x.bare) grown ∙ was.1)
