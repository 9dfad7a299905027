-- What a token shows where nothing is in the making, against what it shows behind any first token.
use Rattle.std.proofs.Common.{Bool, true, false, if◌then◌else◌, List, ℕ, Option, Some, None, Result, Ok, Err}
use Rattle.std.specs.Str.{bytes_eq}
use Rattle.spec_crypto.specs.declared.tokens.der.DerError.{DerError}
use Rattle.spec_crypto.specs.declared.tokens.ntlm.LogonError.{LogonError}
use Rattle.spec_crypto.specs.tokens.Spnego.{RespValue}
use Rattle.spec_crypto.specs.tokens.Formulas.{mech_list_mic}
use Rattle.spec_crypto.specs.tokens.Acceptor.{LogonValue, verdict}
use Rattle.spec_crypto.specs.tokens.Tokens.{Users}
use Rattle.spec_crypto.specs.tokens.Tokens as tokens
use Rattle.spec_world.specs.Logon.{shows_of, token_shows}
use Rattle.server_checks.proofs.setups.Checks.{Unmade}

-- no first token
abbrev IsLater : tokens.Shown → Type 0
IsLater tokens.Begins = ⊥
IsLater _ = Unit {0}

later_with : (list : List ℕ) (logon : LogonValue) (code : Option (List ℕ)) → IsLater (tokens.shown_with list logon code)
later_with list logon None = tt
later_with list logon (Some code) = by (bytes_eq code (mech_list_mic logon.key true logon.exchanged list))
  where
    by : (b : Bool) → IsLater (if b then tokens.LoggedOn logon true else tokens.Refused)
    by true = tt
    by false = tt

later_logon : (list : List ℕ) (code : Option (List ℕ)) (v : Result LogonValue LogonError) → IsLater (tokens.shown_logon list code v)
later_logon list code (Ok logon) = later_with list logon code
later_logon list code (Err e) = tt

later_message : (users : Users) (p : tokens.Pending) (third code : Option (List ℕ)) → IsLater (tokens.shown_message users p third code)
later_message users p None code = tt
later_message users p (Some third) code = later_logon p.list code (verdict users.list p.server p.first p.second third)

later_second : (users : Users) (p : tokens.Pending) (v : Result RespValue DerError) → IsLater (tokens.shown_second users p v)
later_second users p (Ok v) = later_message users p v.token v.mic
later_second users p (Err e) = tt

later : (users : Users) (p : Option tokens.Pending) (token : List ℕ) → IsLater (tokens.shown_by users p token)
later users None token = tt
later users (Some p) token = later_second users p (tokens.second_in p.list token)

alike : (b : Option tokens.Begun) (x : tokens.Shown) → IsLater x → Unmade (shows_of (tokens.shown_if b tokens.Bad))
    (shows_of (tokens.shown_if b x))
alike (Some b) x l = tt
alike None tokens.Begins l = absurd l
alike None tokens.Bad l = tt
alike None tokens.Refused l = tt
alike None (tokens.LoggedOn logon signs) l = tt

pub unmade_shown : (users : Users) (p : Option tokens.Pending) (token : List ℕ)
    → Unmade (token_shows users None token) (token_shows users p token)
unfolding tokens.shown
unmade_shown users p token = alike (tokens.begun_by users.bare token) (tokens.shown_by users p token) (later users p token)
