use Rattle.std.proofs.Common.{Bool, ◌&&◌, not, refl, ap, sym, subst, ◌∙◌}
use Rattle.client_rows.specs.session_state.Shown.{ClientShowsSession}
use Rattle.client_steps.specs.declared.whole_client.client.Client.{Client as Core}
use Rattle.client_book.proofs.Began.{begun_waits}
use Rattle.client_book.specs.Steps.{shared_of}
use Rattle.client_book.proofs.book.ClientBook.begin_by.Goals as goal

pub returns-then-done-clause-told : goal.returns-then-done-clause-told
returns-then-done-clause-told c = λ d s is.
    rw (sym (c.both-done.ensures ∙ ap (λ (b : Bool). b && not c.args.first) is) ∙ c.if-done.true) refl

pub returns-then-live-clause-told : goal.returns-then-live-clause-told
returns-then-live-clause-told c = λ d s is.
    let session = subst (λ (x : Core). ClientShowsSession x.table.session d) (sym c.client.ensures) s.table.session in
    rw (
      sym (c.both-done.ensures ∙ ap (λ (b : Bool). b && not c.args.first) is) ∙ c.if-done.false,
      sym (c.is_live-live.ensures d session) ∙ c.if-live.true,
    ) (c.join.ensures.told d s)

pub returns-clause-told : goal.returns-clause-told
returns-clause-told c = λ d s is.
    let session = subst (λ (x : Core). ClientShowsSession x.table.session d) (sym c.client.ensures) s.table.session in
    c.wait.ensures.told d is
    ∙ begun_waits d (shared_of c.args.self.now) c.args.channel c.args.first c.args.shuns
    (sym (c.both-done.ensures ∙ ap (λ (b : Bool). b && not c.args.first) is) ∙ c.if-done.false)
    (sym (c.is_live-live.ensures d session) ∙ c.if-live.false)

pub returns-clause-shared : goal.returns-clause-shared
returns-clause-shared c = sym c.wait.ensures.shared
