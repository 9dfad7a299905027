use Rattle.std.proofs.Common.{◌<◌, ◌&&◌, not, length, sym, ap, ◌∙◌, subst}
use Rattle.spec_exchange.specs.Operations.{NoOpen}
use Rattle.client_rows.specs.operation_rows.Rows.{row_at, stands, owner}
use Rattle.client_tables.proofs.session_ends.Lost.{left_create, left_unsent, lost_open, lost_sent}
use Rattle.client_tables.proofs.session_ends.leaving.lost_as.Goals as goal

pub is_unsent-requires : goal.is_unsent-requires
is_unsent-requires c = subst (λ y. y < length c.args.rows.now) (sym c.create_of-create.ensures) c.requires.owned

pub returns-then-was_sent : goal.returns-then-was_sent
returns-then-was_sent c = λ d e k w n.
    lost_sent d c.args.index (owner c.args.rows.now c.args.index) c.args.number
    (e ∙ sym c.was_sent.ensures ∙ c.if-was_sent.true) n

pub returns-then-is_create_at : goal.returns-then-is_create_at
returns-then-is_create_at c = λ d e k w n.
    left_create d c.args.index (owner c.args.rows.now c.args.index) (e ∙ sym c.was_sent.ensures ∙ c.if-was_sent.false)
    (k ∙ sym c.is_create_at.ensures ∙ c.if-is_create_at.true)

pub returns-then-is_unsent : goal.returns-then-is_unsent
returns-then-is_unsent c = λ d e k w n.
    let rows = c.args.rows.now in
    let f = k ∙ sym c.is_create_at.ensures ∙ c.if-is_create_at.false in
    left_unsent d c.args.index (owner rows c.args.index) (e ∙ sym c.was_sent.ensures ∙ c.if-was_sent.false) f
    (w f ∙ ap (λ y. stands rows y && not (row_at rows y).sent) (sym c.create_of-create.ensures) ∙ sym c.is_unsent.ensures
    ∙ c.if-is_unsent.true)

pub returns : goal.returns
returns c = λ d e k w n.
    let rows = c.args.rows.now in
    let f = k ∙ sym c.is_create_at.ensures ∙ c.if-is_create_at.false in
    lost_open d c.args.index (owner rows c.args.index) (e ∙ sym c.was_sent.ensures ∙ c.if-was_sent.false) f
    (w f ∙ ap (λ y. stands rows y && not (row_at rows y).sent) (sym c.create_of-create.ensures) ∙ sym c.is_unsent.ensures
    ∙ c.if-is_unsent.false)
    ∙ ap (λ y. NoOpen y) (sym c.create_of-create.ensures)
