use Rattle.std.proofs.Common.{◌<◌, ◌++◌, ◌∷◌, [], false, List, length, map, take, sym, ap, ◌∙◌, arith}
use Rattle.std.proofs.lemmas.List.{map_more}
use Rattle.law_scripts.specs.script_setup.Scripts.{user_of}
use Rattle.script_words.specs.declared.values.User.{User}
use Rattle.spec_crypto.specs.tokens.Acceptor as acceptor
use Rattle.spec_crypto.specs.tokens.Tokens.{Users}
use Rattle.drill_command.proofs.drill_setup.setting.users_of.Goals as goal

pub loop-user-preserved : goal.loop-user-preserved
loop-user-preserved c =
    let us = c.args.users.now in
    let i = c.loop-user.user-index in
    let item = c.user-item.result in
    let within : i < length us = (let t = c.loop-user-test.true in omega arith) in
    c.in_ok-push_user.ensures
    ∙ (ap (λ (l : Users). record l { list = l.list ++ user_of item ∷ [] }) c.loop-user.invariant
    ∙ ap (λ (l : List acceptor.User). record { list = l; bare = false })
    (ap (λ (u : User). map user_of (take i us) ++ user_of u ∷ []) c.user-item.is ∙ sym (map_more user_of us i item within)))
