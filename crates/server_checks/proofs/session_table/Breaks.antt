-- What a token comes to where it breaks, or its logon is refused.
use Rattle.std.proofs.Common.{◌≡◌, List, ℕ, Option, None, Result, Err, sym, ap}
use Rattle.spec_crypto.specs.declared.tokens.der.DerError.{DerError}
use Rattle.spec_crypto.specs.declared.tokens.der.DerError.TheVariants as der
use Rattle.spec_crypto.specs.declared.tokens.ntlm.LogonError.{LogonError}
use Rattle.spec_crypto.specs.declared.tokens.ntlm.LogonError.TheVariants as refusals
use Rattle.spec_crypto.specs.tokens.Spnego.{InitValue, RespValue}
use Rattle.spec_crypto.specs.tokens.Acceptor.{LogonValue}
use Rattle.spec_crypto.specs.tokens.Tokens.{Users}
use Rattle.spec_crypto.specs.tokens.Tokens as tokens
use Rattle.crypto_sessions.specs.spnego.Views.{init_view, resp_view, TokenReads}
use Rattle.crypto_sessions.specs.ntlmv2.Views.{Judges}
use Rattle.server_checks.specs.session_table.Logons.{IsBreak, IsRefusal}

pub init_broken : (e : DerError) (due : Result InitValue DerError) → IsBreak e → TokenReads init_view (Err e) due → None
    ≡ tokens.begun_of due
init_broken der.Memory due b h = absurd b
init_broken (der.Truncated at) due b h = ap (λ (v : Result InitValue DerError). tokens.begun_of v) (sym h)
init_broken (der.BadTag at byte) due b h = ap (λ (v : Result InitValue DerError). tokens.begun_of v) (sym h)
init_broken (der.BadLength at) due b h = ap (λ (v : Result InitValue DerError). tokens.begun_of v) (sym h)
init_broken (der.Trailing at) due b h = ap (λ (v : Result InitValue DerError). tokens.begun_of v) (sym h)
init_broken der.NoNtlm due b h = ap (λ (v : Result InitValue DerError). tokens.begun_of v) (sym h)

pub resp_broken : (e : DerError) (due : Result RespValue DerError) (users : Users) (p : tokens.Pending) → IsBreak e
    → TokenReads resp_view (Err e) due → tokens.Bad ≡ tokens.shown_second users p due
resp_broken der.Memory due users p b h = absurd b
resp_broken (der.Truncated at) due users p b h = ap (λ (v : Result RespValue DerError). tokens.shown_second users p v) (sym h)
resp_broken (der.BadTag at byte) due users p b h = ap (λ (v : Result RespValue DerError). tokens.shown_second users p v) (sym h)
resp_broken (der.BadLength at) due users p b h = ap (λ (v : Result RespValue DerError). tokens.shown_second users p v) (sym h)
resp_broken (der.Trailing at) due users p b h = ap (λ (v : Result RespValue DerError). tokens.shown_second users p v) (sym h)
resp_broken der.NoNtlm due users p b h = ap (λ (v : Result RespValue DerError). tokens.shown_second users p v) (sym h)

pub logon_refused : (e : LogonError) (due : Result LogonValue LogonError) (list : List ℕ) (code : Option (List ℕ))
    → IsRefusal e → Judges (Err e) due → tokens.Refused ≡ tokens.shown_logon list code due
logon_refused refusals.Memory due list code b h = absurd b
logon_refused refusals.UnknownUser due list code b h = ap (λ (v : Result LogonValue LogonError). tokens.shown_logon list code v) (sym h)
logon_refused refusals.WrongProof due list code b h = ap (λ (v : Result LogonValue LogonError). tokens.shown_logon list code v) (sym h)
logon_refused refusals.WrongMic due list code b h = ap (λ (v : Result LogonValue LogonError). tokens.shown_logon list code v) (sym h)
logon_refused refusals.NotAscii due list code b h = ap (λ (v : Result LogonValue LogonError). tokens.shown_logon list code v) (sym h)
