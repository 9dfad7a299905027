use Rattle.std.proofs.Common.{refl, sym, subst, ◌∙◌}
use Rattle.client_rows.specs.session_state.Shown.{ClientShowsSession}
use Rattle.client_steps.specs.declared.whole_client.client.Client.{Client as Core}
use Rattle.client_book.proofs.book.ClientBook.join.Goals as goal

pub returns-then-shunned-clause-told : goal.returns-then-shunned-clause-told
returns-then-shunned-clause-told c = λ d s.
    let session = subst (λ (x : Core). ClientShowsSession x.table.session d) (sym c.client.ensures) s.table.session in
    rw (sym (c.is_shunned-shunned.ensures d session) ∙ c.if-shunned.true) refl

pub returns-clause-told : goal.returns-clause-told
returns-clause-told c = λ d s.
    let session = subst (λ (x : Core). ClientShowsSession x.table.session d) (sym c.client.ensures) s.table.session in
    rw (sym (c.is_shunned-shunned.ensures d session) ∙ c.if-shunned.false) (c.bind.ensures.told d s)
