use Rattle.std.proofs.Common.{◌≡◌, true, false, List, sym, subst, ap, ◌∙◌, Some, None}
use Rattle.spec_crypto.specs.tokens.Acceptor.{User, user_named, is_ascii_utf16}
use Rattle.crypto_sessions.specs.ntlmv2.Views.{type3_view, Judges}
use Rattle.crypto_sessions.specs.ntlmv2.Judging.{user_of}
use Rattle.crypto_sessions.proofs.ntlmv2.Verdicts.{unread, not_ascii, of_user}
use Rattle.crypto_sessions.proofs.ntlmv2.acceptor.Acceptor.check.Goals as goal

pub returns-in-Err : goal.returns-in-Err
returns-in-Err c = unread c.args.users.now.list c.args.self.now.server c.args.self.now.first c.args.self.now.second
    c.args.t3.now _ c.in-Err.ensures

pub returns-then-not-is_ascii : goal.returns-then-not-is_ascii
returns-then-not-is_ascii c = not_ascii c.args.users.now.list c.args.self.now.server c.args.self.now.first
    c.args.self.now.second c.args.t3.now (type3_view c.in-Ok.m) c.in-Ok.ensures (sym c.is_ascii.ensures ∙
    c.if-not-is_ascii.true)

pub returns-in-None : goal.returns-in-None
returns-in-None c =
    let n = rw c.in-None.is at c.in_ok-found.ensures in
    let ascii : is_ascii_utf16 c.in-Ok.m.user.now ≡ true = sym c.is_ascii.ensures ∙ c.if-not-is_ascii.false in
    let e = of_user c.args.users.now.list c.args.self.now.server c.args.self.now.first c.args.self.now.second c.args.t3.now
    (type3_view c.in-Ok.m) None c.in-Ok.ensures ascii
    (subst (λ (us : List User). user_named c.in-Ok.m.user.now us ≡ None) c.as_slice-items.ensures n) in
    subst (λ x. Judges c.refuse_stranger.result x) (sym e) c.refuse_stranger.ensures

pub returns : goal.returns
returns c =
    let n = rw c.in-Some.is at c.in_ok-found.ensures in
    let item = c.index-items-place.result in
    let ascii : is_ascii_utf16 c.in-Ok.m.user.now ≡ true = sym c.is_ascii.ensures ∙ c.if-not-is_ascii.false in
    let named : user_named c.in-Ok.m.user.now c.args.users.now.list ≡ Some (user_of item) =
    subst (λ (us : List User). user_named c.in-Ok.m.user.now us ≡ Some (user_of item)) c.as_slice-items.ensures (n.1
    item ∙ ap (λ i. Some (user_of i)) (sym c.index-items-place.is)) in
    let e = of_user c.args.users.now.list c.args.self.now.server c.args.self.now.first c.args.self.now.second c.args.t3.now
    (type3_view c.in-Ok.m) (Some (user_of item)) c.in-Ok.ensures ascii named in
    subst (λ x. Judges c.judge.result x) (sym e) c.judge.ensures
