-- Steps of a logon made ready.
use Rattle.std.proofs.Common.{◌≡◌, ℕ, Bool, List, Result, Ok, Err, IfOk, Some, refl, sym, ap, subst, ◌∙◌}
use Rattle.std.specs.Prelude.{Option}
use Rattle.spec_exchange.specs.Commands as asks
use Rattle.spec_exchange.specs.Commands.{SetupRequest}
use Rattle.spec_exchange.specs.State.{Message, Server}
use Rattle.spec_exchange.specs.Verdict as verdicts
use Rattle.crypto_sessions.specs.ntlmv2.Judging.{AcceptorState}
use Rattle.server_checks.specs.session_table.Logons.{KeysShown, LogonsShown, PendingShown, pending_for, pending_made, shown_of}
use Rattle.server_checks.specs.declared.session_table.row.InMaking.{InMaking}
use Rattle.server_checks.specs.declared.session_table.row.SessionRow.{SessionRow}
use Rattle.server_checks.specs.declared.session_table.table.Sessions.{Sessions}
use Rattle.spec_crypto.specs.sessions.Derivation.{bound_keys}
use Rattle.spec_crypto.specs.declared.sessions.material.Keys.{Keys}
use Rattle.spec_crypto.specs.tokens.Acceptor.{LogonValue}
use Rattle.spec_crypto.specs.tokens.Tokens as tokens
use Rattle.spec_crypto.specs.tokens.Tokens.{Pending, challenge_token, final_token, second_of}
use Rattle.spec_world.specs.Logon as logon
use Rattle.server_checks.specs.event_heard.Heard as heard
use Rattle.server_checks.specs.declared.event_heard.asked.LogonPart.{LogonPart}
use Rattle.server_effects.specs.declared.reserved.ready.Ready.{Ready}
use Rattle.server_effects.specs.declared.reserved.ready.Ready.TheVariants as readies
use Rattle.server_effects.specs.declared.reserved.ready.SetupReady.TheVariants as steps
use Rattle.server_checks.specs.Shown.{TablesShown}
use Rattle.server_checks.specs.declared.tables.Tables.{Tables}
use Rattle.server_effects.specs.Ready.{IsRowFor}
use Rattle.server_checks.specs.verdicts.Views.{user_shown}
use Rattle.server_checks.specs.event_heard.Heard.{setup_in}
use Rattle.server_plan.proofs.reserving.Kept.{others}
use Rattle.server_plan.specs.reserving.Logons.{ChallengeOf, EndOf, ReadyStep, StepOf, begin_verdict}
use Rattle.server_plan.specs.reserving.Readies.{HasNoStep, IsReadyFor}

-- the same from each of the logons that are shown
pub each_ok : {E : Type 0} (t : Sessions) (k : ℕ) (p : Option LogonPart) (now : ℕ) (r : Result Ready E)
    → ((keys : ℕ → Keys) (pending : ℕ → Option Pending) → LogonsShown t keys pending → IfOk r (λ x. ReadyStep keys pending k p now x))
    → IfOk r (λ x. StepOf t k p now x)
each_ok t k p now (Ok x) f = f
each_ok t k p now (Err e) f = tt

-- what is no step is none of any logon
pub alone_step : (t : Sessions) (k : ℕ) (p : Option LogonPart) (now : ℕ) (r : Ready) → HasNoStep r → StepOf t k p now r
alone_step t k p now (readies.Refuse status) h = λ keys pending l. tt
alone_step t k p now (readies.Give body) h = λ keys pending l. tt
alone_step t k p now (readies.KeepRefusal guid status) h = λ keys pending l. tt
alone_step t k p now (readies.Repeat id) h = λ keys pending l. tt
alone_step t k p now (readies.Attach id) h = λ keys pending l. tt
alone_step t k p now (readies.Make file row) h = λ keys pending l. tt
alone_step t k p now (readies.TurnDown id status) h = λ keys pending l. tt
alone_step t k p now (readies.Tell id body) h = λ keys pending l. tt
alone_step t k p now (readies.Show id last body) h = λ keys pending l. tt
alone_step t k p now (readies.Seek id position) h = λ keys pending l. tt
alone_step t k p now (readies.KeepSlot id index number status) h = λ keys pending l. tt
alone_step t k p now (readies.PutRanges id index number ranges) h = λ keys pending l. tt
alone_step t k p now (readies.Alter id change body acts) h = λ keys pending l. tt
alone_step t k p now (readies.CloseOpen id body) h = λ keys pending l. tt
alone_step t k p now (readies.Setup step) h = absurd h
alone_step t k p now (readies.EndSession session quiet) h = λ keys pending l. tt
alone_step t k p now (readies.AddTree pipes) h = λ keys pending l. tt
alone_step t k p now (readies.DropTree opens) h = λ keys pending l. tt

-- ---- verdicts

pub challenge_for : (t : Tables) (s : Server) (m : Message) (now : ℕ) (list : List ℕ) (acceptor : AcceptorState) (token : List ℕ)
    → TablesShown t s → IsReadyFor t s m now verdicts.Challenge (readies.Setup (steps.Challenge list acceptor token))
challenge_for t s m now list acceptor token h = record {
  verdict_is = refl;
  is_ready = record { others = others t s h; files = h.files; stands = tt };
}

pub binding_for : (t : Tables) (s : Server) (m : Message) (now session : ℕ) (list : List ℕ) (acceptor : AcceptorState) (token : List ℕ)
    → TablesShown t s
    → IsReadyFor t s m now (verdicts.ChallengeBinding session) (readies.Setup (steps.ChallengeBinding session list acceptor token))
binding_for t s m now session list acceptor token h = record {
  verdict_is = refl;
  is_ready = record { others = others t s h; files = h.files; stands = tt };
}

pub join_for : (t : Tables) (s : Server) (m : Message) (now session : ℕ) (keys : Keys) (token : List ℕ) → TablesShown t s
    → IsReadyFor t s m now (verdicts.Join session) (readies.Setup (steps.Join session keys token))
join_for t s m now session keys token h = record {
  verdict_is = refl;
  is_ready = record { others = others t s h; files = h.files; stands = tt };
}

pub begin_for : (t : Tables) (s : Server) (m : Message) (now session : ℕ) (row : SessionRow) (token : List ℕ) (previous : Option ℕ)
    (quiet : Bool) → TablesShown t s → IsRowFor row m (user_shown (setup_in m.command).shows) (setup_in m.command)
    → IsReadyFor t s m now (begin_verdict m.command session previous quiet)
    (readies.Setup (steps.Begin session row token previous quiet))
begin_for t s m now session row token previous quiet h i = record {
  verdict_is = ap (λ (u : List ℕ). verdicts.Begin session u previous (setup_in m.command) quiet) i.user_is;
  is_ready = record {
    others = others t s h;
    files = h.files;
    stands = record {
      is_new = i.is_new;
      user_is = refl;
      client_is = i.client_is;
      cipher_is = i.cipher_is;
      signing_is = i.signing_is;
    };
  };
}

-- ---- what a request says of its token and its algorithms, in either crate's word for the request

setup_same : (c : asks.Command) → heard.setup_in c ≡ setup_in c
setup_same (asks.Setup request) = refl
setup_same _ = refl

pub agreed : (c : asks.Command) (p : LogonPart) → heard.PartAgrees c (Some p) → ((setup_in c).shows ≡ logon.shows_of (shown_of p.shown))
    × ((setup_in c).cipher ≡ p.chosen.cipher) × ((setup_in c).signing ≡ p.chosen.signing)
agreed c p h = subst (λ (q : SetupRequest). (q.shows ≡ logon.shows_of (shown_of p.shown)) × (q.cipher ≡ p.chosen.cipher)
    × (q.signing ≡ p.chosen.signing)) (setup_same c) h

-- ---- tokens and keys

pub made_challenge : (b : tokens.Begun) (fresh : List ℕ) (now : ℕ) (copy list : List ℕ) (made acceptor : AcceptorState)
    (sent token : List ℕ) → copy ≡ b.list → list ≡ copy → acceptor ≡ made → token ≡ sent
    → pending_made b.list made ≡ pending_for b fresh now → sent ≡ challenge_token b.list (second_of b fresh now)
    → ChallengeOf (Some b) fresh now list acceptor token
made_challenge b fresh now copy list made acceptor sent token c l a e k h = (
  ap (λ (z : List ℕ). pending_made z acceptor) (l ∙ c) ∙ (ap (λ (z : AcceptorState). pending_made b.list z) a ∙ k),
  e ∙ h,
)

-- the token that ends what is in the making
pub ended : (m : InMaking) (p : Option Pending) (v : LogonValue) (signs : Bool) (list token : List ℕ) → PendingShown (Some m) p
    → list ≡ m.list → token ≡ final_token list v signs → EndOf p (tokens.LoggedOn v signs) token
ended m p v signs list token h l e = subst (λ (z : Option Pending). EndOf z (tokens.LoggedOn v signs) token) (sym h)
    (e ∙ ap (λ (z : List ℕ). final_token z v signs) l)

pub bound_as : (r : SessionRow) (keys : Keys) (base chain : List ℕ) (a : Keys) → KeysShown (Some r) keys → a ≡ bound_keys base chain r.keys
    → a ≡ bound_keys base chain keys
bound_as r keys base chain a h e = e ∙ ap (bound_keys base chain) (sym h)

-- the session of a request whose token shows this user
pub shown_row : (row : SessionRow) (m : Message) (q : SetupRequest) (user : List ℕ) → q.shows ≡ asks.Logon user → IsRowFor row m user q
    → IsRowFor row m (user_shown q.shows) q
shown_row row m q user e i = subst (λ (v : asks.Shows). IsRowFor row m (user_shown v) q) (sym e) i
