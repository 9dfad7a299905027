use Rattle.std.proofs.Common.{◌≡◌, true, false, List, ℕ, take, drop, refl, sym, ap, subst, ◌∙◌, arith}
use Rattle.std.specs.Str.{bytes_eq}
use Rattle.spec_crypto.specs.tokens.Formulas.{ntowf_in, proof}
use Rattle.spec_crypto.specs.tokens.Acceptor.{has_form, proves, exported_key}
use Rattle.crypto_sessions.specs.ntlmv2.Views.{type3_view}
use Rattle.crypto_sessions.specs.ntlmv2.Judging.{exported_by}
use Rattle.crypto_sessions.proofs.ntlmv2.Forms.{has_proof, has_key}
use Rattle.crypto_sessions.proofs.ntlmv2.acceptor.key_of.Goals as goal

pub is_shown-requires : goal.is_shown-requires
is_shown-requires c = let long = has_proof (type3_view c.args.m.now) (sym c.is_formed.ensures ∙ c.if-not-is_formed.false) in omega arith

pub returns-then-not-is_shown : goal.returns-then-not-is_shown
unfolding proves
returns-then-not-is_shown c =
    let formed : has_form (type3_view c.args.m.now) ≡ true = sym c.is_formed.ensures ∙ c.if-not-is_formed.false in
    let k : c.in_ok-key.key ≡ ntowf_in c.args.user.now.1 c.args.user.now.0 c.args.m.now.domain.now = cc c.in_ok-key.ensures in
    let s : bytes_eq (take 16 c.args.m.now.nt.now) (proof c.in_ok-key.key c.args.server.now (drop 16
    c.args.m.now.nt.now)) ≡ false = sym c.is_shown.ensures ∙ c.if-not-is_shown.true in
    rw formed (subst (λ (x : List ℕ). bytes_eq (take 16 c.args.m.now.nt.now) (proof x c.args.server.now (drop 16
    c.args.m.now.nt.now)) ≡ false) k s)

pub exported_key_of-requires : goal.exported_key_of-requires
exported_key_of-requires c =
    let formed : has_form (type3_view c.args.m.now) ≡ true = sym c.is_formed.ensures ∙ c.if-not-is_formed.false in
    record {
      shown = (let long = has_proof (type3_view c.args.m.now) formed in omega arith);
      sent = λ e. has_key (type3_view c.args.m.now) formed e;
    }

pub returns : goal.returns
unfolding proves exported_key
returns c =
    let formed : has_form (type3_view c.args.m.now) ≡ true = sym c.is_formed.ensures ∙ c.if-not-is_formed.false in
    let k : c.in_ok-key.key ≡ ntowf_in c.args.user.now.1 c.args.user.now.0 c.args.m.now.domain.now = cc c.in_ok-key.ensures in
    let s : bytes_eq (take 16 c.args.m.now.nt.now) (proof c.in_ok-key.key c.args.server.now (drop 16
    c.args.m.now.nt.now)) ≡ true = sym c.is_shown.ensures ∙ c.if-not-is_shown.false in (
      rw formed (subst (λ (x : List ℕ). bytes_eq (take 16 c.args.m.now.nt.now) (proof x c.args.server.now (drop 16
          c.args.m.now.nt.now)) ≡ true) k s),
      c.exported_key_of.ensures ∙ ap (λ (x : List ℕ). exported_by x (type3_view c.args.m.now)) k,
    )

pub returns-then-not-is_formed : goal.returns-then-not-is_formed
unfolding proves
returns-then-not-is_formed c =
    let formed : has_form (type3_view c.args.m.now) ≡ false = sym c.is_formed.ensures ∙ c.if-not-is_formed.true in
    rw formed refl
