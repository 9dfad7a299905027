-- The tokens and keys of a step of a logon are those that its token shows (MS-SMB2 3.3.5.5.3).
use Rattle.std.proofs.Common.{◌≡◌, ℕ, Bool, true, if◌then◌else◌, List, take, length, Option, Some, None, is_some, sym, ap, arith, ◌∙◌}
use Rattle.std.proofs.lemmas.List.{take_all}
use Rattle.spec_exchange.specs.State as model
use Rattle.crypto_sessions.specs.ntlmv2.Judging.{AcceptorState}
use Rattle.server_checks.specs.setups.Setups.{in_the_making}
use Rattle.server_plan.specs.reserving.Logons.{ChallengeOf, EndOf}
use Rattle.server_checks.specs.session_table.Logons.{pending_made}
use Rattle.spec_crypto.specs.tokens.Tokens.{Users}
use Rattle.spec_crypto.specs.tokens.Tokens as tokens
use Rattle.spec_crypto.specs.tokens.Tokens.{Begun, Pending, challenge_token, second_of, shown}
use Rattle.spec_world.specs.Ends.{Logons}
use Rattle.spec_world.specs.Logon.{challenge_of, final_by, final_of, pending_with}

-- all of a list of 8
whole : (xs : List ℕ) → length xs ≡ 8 → take 8 xs ≡ xs
whole xs e = take_all 8 xs (omega (arith, e))

-- the challenge that is sent is the one that is kept
abbrev challenge_from : Begun → List ℕ → ℕ → List ℕ → Option Pending
challenge_from b fresh now server = Some (record { list = b.list; server = server; first = b.first; second = second_of b server now })

pub challenge_kept : (b : Option Begun) (fresh : List ℕ) (now : ℕ) (list : List ℕ) (acceptor : AcceptorState) (token : List ℕ)
    → length fresh ≡ 8 → ChallengeOf b fresh now list acceptor token → Some (pending_made list acceptor) ≡ pending_with b fresh now
challenge_kept None fresh now list acceptor token n h = absurd h
challenge_kept (Some b) fresh now list acceptor token n h = ap (λ (p : Pending). Some p) h.0
    ∙ sym (ap (challenge_from b fresh now) (whole fresh n))

pub challenge_sent : (b : Option Begun) (fresh : List ℕ) (now : ℕ) (list : List ℕ) (acceptor : AcceptorState) (token : List ℕ)
    → length fresh ≡ 8 → ChallengeOf b fresh now list acceptor token → token ≡ challenge_of (pending_with b fresh now)
challenge_sent None fresh now list acceptor token n h = absurd h
challenge_sent (Some b) fresh now list acceptor token n h = h.1
    ∙ sym (ap (λ (server : List ℕ). challenge_token b.list (second_of b server now)) (whole fresh n))

-- the token that ends what is in the making
pub end_sent : (users : Users) (p : Option Pending) (token : List ℕ) (sh : tokens.Shown) (sent : List ℕ) → sh ≡ shown users p token
    → EndOf p sh sent → sent ≡ final_of users p token
end_sent users None token sh sent e h = absurd h
end_sent users (Some p) token sh sent e h = h ∙ ap (final_by p.list) e

-- what is in the making on a connection counts there
pub made_there : (s : model.Server) (L : Logons) (k : ℕ) → is_some (s.making k) ≡ true → (in_the_making s L).pending k ≡ L.pending k
made_there s L k e = ap (λ (b : Bool). if b then L.pending k else None) e
