-- A connection behind one reply: what a SESSION_SETUP or a NEGOTIATE moves on.
use Rattle.std.proofs.Common.{◌≡◌, ◌≤◌, ℕ, ◌==◌, Bool, true, false, ◌&&◌, if◌then◌else◌, List, [], ◌∷◌, ◌++◌, Option, Some, None}
use Rattle.std.proofs.Common.{refl, sym, ap, subst, ◌∙◌, arith}
use Rattle.std.proofs.lemmas.Bool.Decides.{nat_tests}
use Rattle.spec_exchange.specs.Status.{success}
use Rattle.spec_crypto.specs.declared.sessions.material.Keys.{Keys}
use Rattle.spec_crypto.specs.sessions.Nonces.{NonceState}
use Rattle.spec_crypto.specs.sessions.Chain.{chain}
use Rattle.spec_world.specs.Ends as ends
use Rattle.spec_world.specs.Hearing as hearing
use Rattle.spec_world.specs.Answering as answering
use Rattle.spec_world.specs.Logon as logon
use Rattle.spec_world.specs.Logon.{greeting_transcript}
use Rattle.spec_world.specs.Negotiate.{negotiated, client_told}
use Rattle.conn_core.specs.declared.conn.Greeting.{Greeting}
use Rattle.conn_core.specs.declared.logon_state.behind.Behind.{Behind}
use Rattle.conn_core.specs.logon_state.Behind.{ShowsBehind}

-- what doesn't move
pub moved_stays : (nonces : NonceState) (b : Behind) (f : ends.ServerEnd) (s : answering.SaidReply) (response : List ℕ)
    → ShowsBehind nonces b f
    → s.progress ≡ logon.Stays → ShowsBehind nonces b (answering.server_end_moved f s response s.progress)
moved_stays nonces b f s response shows stays =
    subst (λ (p : logon.Progress). ShowsBehind nonces b (answering.server_end_moved f s response p)) (sym stays) shows

-- an interim response: the chain behind NEGOTIATE, its request and its response
pub moved_interim : (nonces : NonceState) (b : Behind) (f : ends.ServerEnd) (s : answering.SaidReply) (request response value : List ℕ)
    → ShowsBehind nonces b f → (binding : Bool) × (s.progress ≡ logon.Interim binding) → s.request.raw ≡ request
    → chain (greeting_transcript f.greeting ++ (request ∷ response ∷ [])) ≡ value
    → ShowsBehind nonces (record b { logon = record b.logon { making = Some value } }) (answering.server_end_moved f s response s.progress)
moved_interim nonces b f s request response value shows moves raw is =
    let told : chain (greeting_transcript f.greeting ++ (s.request.raw ∷ response ∷ [])) ≡ value =
    ap (λ (m : List ℕ). chain (greeting_transcript f.greeting ++ (m ∷ response ∷ []))) raw ∙ is in
    subst (λ (p : logon.Progress). ShowsBehind nonces (record b { logon = record b.logon { making = Some value } })
    (answering.server_end_moved f s response p)) (sym moves.1)
    (record {
      logon = record {
        greeting = shows.logon.greeting;
        making = told;
        keys = shows.logon.keys;
        known = shows.logon.known;
        encrypts = shows.logon.encrypts;
      };
      nonces_are = shows.nonces_are;
    })

-- a final one: its keys, and a channel whose nonces begin anew
pub moved_final : (nonces : NonceState) (b : Behind) (f : ends.ServerEnd) (s : answering.SaidReply) (response : List ℕ) (keys : Keys)
    (channel : ℕ) (encrypts : Bool) → ShowsBehind nonces b f
    → (binding : Bool) × (s.progress ≡ logon.Final binding channel encrypts) × (s.keys ≡ keys) → keys.cipher ≤ 4
    → ShowsBehind nonces (record {
      logon = record b.logon { making = None; keys = Some keys; encrypts = encrypts };
      channel = Some channel;
    })
    (answering.server_end_moved f s response s.progress)
moved_final nonces b f s response keys channel encrypts shows moves few =
    subst (λ (p : logon.Progress). ShowsBehind nonces (record {
      logon = record b.logon { making = None; keys = Some keys; encrypts = encrypts };
      channel = Some channel;
    }) (answering.server_end_moved f s response p)) (sym moves.1)
    (record {
      logon = record {
        greeting = shows.logon.greeting;
        making = tt;
        keys = ap (λ (k : Keys). Some k) moves.2;
        known = few;
        encrypts = refl;
      };
      nonces_are = (refl, refl);
    })

-- ---- a NEGOTIATE

greets_by : (n t : Bool) (x y : Option ends.Greeting) → n ≡ true → t ≡ true → (if n && t then x else y) ≡ x
greets_by true true x y e f = refl
greets_by true false x y e f = absurd (cc)
greets_by false t x y e f = absurd (cc)

passes_by : (n t : Bool) (x y : Option ends.Greeting) → (n ≡ true → t ≡ true → ⊥) → (if n && t then x else y) ≡ y
passes_by true true x y h = absurd (h refl refl)
passes_by true false x y h = refl
passes_by false t x y h = refl

-- one that was answered with success
pub greeted : (nonces : NonceState) (b : Behind) (f : ends.ServerEnd) (s : answering.SaidReply) (request response : List ℕ) (g : Greeting)
    → ShowsBehind nonces b f → hearing.is_negotiate s.request.header ≡ true → s.header.status ≡ success → s.request.raw ≡ request
    → g.client ≡ client_told s.request.bytes → g.chosen ≡ negotiated s.request.bytes → chain (request ∷ response ∷ []) ≡ g.chain
    → ShowsBehind nonces (record b { logon = record b.logon { greeting = Some g } })
    (record f { greeting = answering.greeting_behind f.greeting s response })
greeted nonces b f s request response g shows greets status raw client chosen is =
    let due : ends.Greeting = record {
      client = client_told s.request.bytes;
      chosen = negotiated s.request.bytes;
      transcript = s.request.raw ∷ response ∷ [];
    } in
    let told : answering.greeting_behind f.greeting s response ≡ Some due =
    greets_by (hearing.is_negotiate s.request.header) (s.header.status == success) (Some due) f.greeting greets
    (ap (λ (n : ℕ). n == success) status) in
    let hashed : chain (s.request.raw ∷ response ∷ []) ≡ g.chain = ap (λ (m : List ℕ). chain (m ∷ response ∷ [])) raw ∙ is in
    subst (λ (o : Option ends.Greeting). ShowsBehind nonces (record b { logon = record b.logon { greeting = Some g } })
    (record f { greeting = o }))
    (sym told)
    (record {
      logon = record {
        greeting = (sym client, sym chosen, hashed);
        making = shows.logon.making;
        keys = shows.logon.keys;
        known = shows.logon.known;
        encrypts = shows.logon.encrypts;
      };
      nonces_are = shows.nonces_are;
    })

-- any other reply
pub not_greeted : (nonces : NonceState) (b : Behind) (f : ends.ServerEnd) (s : answering.SaidReply) (response : List ℕ)
    → ShowsBehind nonces b f
    → (hearing.is_negotiate s.request.header ≡ true → (s.header.status == success) ≡ true → ⊥)
    → ShowsBehind nonces b (record f { greeting = answering.greeting_behind f.greeting s response })
not_greeted nonces b f s response shows passes =
    let told : answering.greeting_behind f.greeting s response ≡ f.greeting =
    passes_by (hearing.is_negotiate s.request.header) (s.header.status == success) (Some (record {
      client = client_told s.request.bytes;
      chosen = negotiated s.request.bytes;
      transcript = s.request.raw ∷ response ∷ [];
    })) f.greeting passes in
    subst (λ (o : Option ends.Greeting). ShowsBehind nonces b (record f { greeting = o })) (sym told) shows

-- ---- both

same_greeting : (f : ends.ServerEnd) (s : answering.SaidReply) (response : List ℕ) (p : logon.Progress)
    → (answering.server_end_moved f s response p).greeting ≡ f.greeting
same_greeting f s response logon.Stays = refl
same_greeting f s response (logon.Interim binding) = refl
same_greeting f s response (logon.Final binding channel encrypts) = refl

pub both_moved : (nonces : NonceState) (b : Behind) (f : ends.ServerEnd) (s : answering.SaidReply) (response : List ℕ)
    → ShowsBehind nonces b (record (answering.server_end_moved f s response s.progress) {
      greeting = answering.greeting_behind (answering.server_end_moved f s response s.progress).greeting s response;
    }) → ShowsBehind nonces b (answering.server_end_behind f s response)
both_moved nonces b f s response shows =
    subst (λ (g : Option ends.Greeting). ShowsBehind nonces b (record (answering.server_end_moved f s response s.progress) {
      greeting = answering.greeting_behind g s response;
    })) (same_greeting f s response s.progress) shows

pub not_both : (b : Bool) → b ≡ true → b ≡ false → ⊥
not_both true e f = cc
not_both false e f = cc

pub is_it : (n k : ℕ) → (n == k) ≡ true → n ≡ k
is_it n k e = grind (arith, nat_tests)
