use Rattle.std.proofs.Common.{refl, ap, sym, subst, ◌+◌, ◌∙◌}
use Rattle.client_ends.specs.declared.ends.config.Bound.{Bound}
use Rattle.client_rows.specs.session_state.Shown.{ClientShowsSession}
use Rattle.client_steps.specs.declared.whole_client.client.Client.{Client as Core}
use Rattle.client_book.specs.declared.turn.Told.TheVariants.{Bind}
use Rattle.client_book.proofs.Began.{bound_is}
use Rattle.client_book.proofs.book.ClientBook.bind.Goals as goal

pub returns-then-none-clause-told : goal.returns-then-none-clause-told
returns-then-none-clause-told c = λ d s. rw (sym c.is_last-none.ensures ∙ c.if-none.true) refl

pub returns-clause-told : goal.returns-clause-told
returns-clause-told c = λ d s.
    let old = c.args.self.now in
    let session = subst (λ (x : Core). ClientShowsSession x.table.session d) (sym c.client.ensures) s.table.session in
    let is = c.bound_to-bound.ensures.told d session in
    rw (sym c.is_last-none.ensures ∙ c.if-none.false) (ap (λ (b : Bound). Bind b (old.numbers + 1))
    (bound_is c.bound_to-bound.result d.session d.tree old.keys is.0 is.1 c.bound_to-bound.ensures.keys))
