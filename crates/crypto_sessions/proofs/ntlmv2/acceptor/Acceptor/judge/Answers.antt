use Rattle.std.proofs.Common.{◌≡◌, true, false, List, ℕ, sym, ap, subst, ◌∙◌}
use Rattle.spec_crypto.specs.tokens.Acceptor.{proves}
use Rattle.crypto_sessions.specs.ntlmv2.Views.{type3_view}
use Rattle.crypto_sessions.specs.ntlmv2.Judging.{AcceptorState, user_of, has_mic}
use Rattle.crypto_sessions.proofs.ntlmv2.Verdicts.{wrong_proof, wrong_mic, logged_on}
use Rattle.crypto_sessions.proofs.ntlmv2.acceptor.Acceptor.judge.Goals as goal

pub returns-in-None : goal.returns-in-None
returns-in-None c =
    let k = rw c.in-None.is at c.in_ok-found.ensures in
    wrong_proof (user_of c.args.user.now) c.args.self.now.server c.args.self.now.first c.args.self.now.second
    c.args.t3.now (type3_view c.args.m.now) (subst (λ (x : List ℕ). proves (user_of c.args.user.now) x (type3_view
    c.args.m.now) ≡ false) (ap (λ (a : AcceptorState). a.server) c.self.view_is) k)

pub returns-then-not-has_mic : goal.returns-then-not-has_mic
returns-then-not-has_mic c =
    let k = rw c.in-Some.is at c.in_ok-found.ensures in
    let h : has_mic c.in-Some.key c.args.self.now.first c.args.self.now.second c.args.t3.now (type3_view c.args.m.now) ≡
    false = sym c.in_ok-has_mic.ensures ∙ c.if-not-has_mic.true in
    wrong_mic (user_of c.args.user.now) c.args.self.now.server c.args.self.now.first c.args.self.now.second
    c.args.t3.now (type3_view c.args.m.now) (subst (λ (x : List ℕ). proves (user_of c.args.user.now) x (type3_view
    c.args.m.now) ≡ true) (ap (λ (a : AcceptorState). a.server) c.self.view_is) k.0)
    (subst (λ (x : List ℕ). has_mic x c.args.self.now.first c.args.self.now.second c.args.t3.now (type3_view c.args.m.now) ≡ false) k.1 h)

pub returns : goal.returns
returns c =
    let k = rw c.in-Some.is at c.in_ok-found.ensures in
    let h : has_mic c.in-Some.key c.args.self.now.first c.args.self.now.second c.args.t3.now (type3_view c.args.m.now) ≡
    true = sym c.in_ok-has_mic.ensures ∙ c.if-not-has_mic.false in
    let e = logged_on (user_of c.args.user.now) c.args.self.now.server c.args.self.now.first c.args.self.now.second
    c.args.t3.now (type3_view c.args.m.now) (subst (λ (x : List ℕ). proves (user_of c.args.user.now) x (type3_view
    c.args.m.now) ≡ true) (ap (λ (a : AcceptorState). a.server) c.self.view_is) k.0)
    (subst (λ (x : List ℕ). has_mic x c.args.self.now.first c.args.self.now.second c.args.t3.now (type3_view c.args.m.now) ≡ true) k.1 h) in
    rw (c.in_ok-name.ensures, c.has_key_exchange.ensures, k.1) e
