-- What a step of a logon that was made ready stands for (MS-SMB2 3.3.5.5.3): its token, and the challenge or the keys.
use Rattle.std.specs.Prelude.{◌≡◌, ℕ, Bool, List, Option, Some, None, ⊤}
use Rattle.spec_exchange.specs.Commands as asks
use Rattle.spec_exchange.specs.Verdict as verdicts
use Rattle.crypto_sessions.specs.ntlmv2.Judging.{AcceptorState}
use Rattle.server_checks.specs.session_table.Logons.{LogonsShown, begun_in, pending_for, pending_made, shown_of}
use Rattle.server_checks.specs.declared.session_table.table.Sessions.{Sessions}
use Rattle.spec_crypto.specs.sessions.Derivation.{bound_keys, keys_of}
use Rattle.spec_crypto.specs.declared.sessions.material.Keys.{Keys}
use Rattle.spec_crypto.specs.tokens.Tokens as tokens
use Rattle.spec_crypto.specs.tokens.Tokens.{Pending, challenge_token, second_of}
use Rattle.spec_world.specs.Logon.{exported_by, final_by}
use Rattle.server_checks.specs.declared.event_heard.asked.LogonPart.{LogonPart}
use Rattle.server_checks.specs.verdicts.Views.{user_shown}
use Rattle.server_checks.specs.event_heard.Heard.{setup_in}
use Rattle.server_effects.specs.declared.reserved.ready.Ready.{Ready}
use Rattle.server_effects.specs.declared.reserved.ready.Ready.TheVariants as readies
use Rattle.server_effects.specs.declared.reserved.ready.SetupReady.{SetupReady}
use Rattle.server_effects.specs.declared.reserved.ready.SetupReady.TheVariants as steps

-- a challenge to what a first token begins, of 8 random bytes and a moment: the one that is kept is the one that is sent
abbrev pub ChallengeOf : Option tokens.Begun → List ℕ → ℕ → List ℕ → AcceptorState → List ℕ → Type 0
ChallengeOf None fresh now list acceptor token = ⊥
ChallengeOf (Some b) fresh now list acceptor token = (pending_made list acceptor ≡ pending_for b fresh now)
    × (token ≡ challenge_token b.list (second_of b fresh now))

-- a token that ends the logon in the making
abbrev pub EndOf : Option Pending → tokens.Shown → List ℕ → Type 0
EndOf None shown token = ⊥
EndOf (Some p) shown token = token ≡ final_by p.list shown

abbrev pub StepFor : (ℕ → Keys) → (ℕ → Option Pending) → ℕ → LogonPart → ℕ → SetupReady → Type 0
StepFor keys pending k p now (steps.Challenge list acceptor token) = ChallengeOf (begun_in p.shown) p.fresh now list acceptor token
StepFor keys pending k p now (steps.ChallengeBinding session list acceptor token) = ChallengeOf (begun_in p.shown)
    p.fresh now list acceptor token
StepFor keys pending k p now (steps.Begin session row token previous quiet) = EndOf (pending k) (shown_of p.shown) token
    × (row.keys ≡ keys_of (exported_by (shown_of p.shown)) p.chain p.chosen.cipher p.chosen.signing session)
StepFor keys pending k p now (steps.Join session new token) = EndOf (pending k) (shown_of p.shown) token
    × (new ≡ bound_keys (exported_by (shown_of p.shown)) p.chain (keys session))

-- of a message without a token there is no step
abbrev pub StepBy : (ℕ → Keys) → (ℕ → Option Pending) → ℕ → Option LogonPart → ℕ → SetupReady → Type 0
StepBy keys pending k None now step = ⊥
StepBy keys pending k (Some p) now step = StepFor keys pending k p now step

abbrev pub ReadyStep : (ℕ → Keys) → (ℕ → Option Pending) → ℕ → Option LogonPart → ℕ → Ready → Type 0
ReadyStep keys pending k p now (readies.Setup step) = StepBy keys pending k p now step
ReadyStep keys pending k p now _ = ⊤

-- from any keys and logons in the making that the sessions show, on the connection k
abbrev pub StepOf : Sessions → ℕ → Option LogonPart → ℕ → Ready → Type 0
StepOf t k p now r = (keys : ℕ → Keys) (pending : ℕ → Option Pending) → LogonsShown t keys pending → ReadyStep keys pending k p now r

-- ---- verdicts on a logon

abbrev pub challenge_verdict : Option ℕ → verdicts.Verdict
challenge_verdict None = verdicts.Challenge
challenge_verdict (Some session) = verdicts.ChallengeBinding session

abbrev pub begin_verdict : asks.Command → ℕ → Option ℕ → Bool → verdicts.Verdict
begin_verdict c session previous quiet = verdicts.Begin session (user_shown (setup_in c).shows) previous (setup_in c) quiet
