use Rattle.std.proofs.Common.{◌∙◌, Option, ap}
use Rattle.std.specs.Option.{option_copied}
use Rattle.spec_crypto.specs.tokens.Tokens as tokens
use Rattle.server_checks.proofs.event_heard.Made.{if_ok_by, made}
use Rattle.server_checks.proofs.event_heard.asked.setup_shown.Goals as goal

pub returns-clause-shown : goal.returns-clause-shown
returns-clause-shown c =
    let k = c.args.setup.now.connection in
    if_ok_by c.token_shown.result c.token_shown.ensures.shown
    (λ v h s L t l. h ∙ ap (λ (p : Option tokens.Pending). tokens.shown c.args.users.now p c.args.setup.now.form.token.now)
    (made (option_copied c.making-making.result) (s.making k) (L.pending k) (c.making-making.ensures.shows s t)
    (c.making-making.ensures.pending L.keys L.pending l)))
