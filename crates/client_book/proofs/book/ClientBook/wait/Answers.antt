use Rattle.std.proofs.Common.{Bool, ◌&&◌, refl, ap, sym, ◌∙◌}
use Rattle.client_book.proofs.book.ClientBook.wait.Goals as goal

pub returns-then-finished-clause-told : goal.returns-then-finished-clause-told
returns-then-finished-clause-told c = λ d is. rw c.if-finished.true refl

pub returns-then-first-clause-told : goal.returns-then-first-clause-told
returns-then-first-clause-told c = λ d is. rw (c.if-finished.false, sym c.is_channel_0-first.ensures ∙ c.if-first.true) refl

pub returns-then-over-clause-told : goal.returns-then-over-clause-told
returns-then-over-clause-told c = λ d is.
    rw (
      c.if-finished.false,
      sym c.is_channel_0-first.ensures ∙ c.if-first.false,
      sym
          (c.both-over.ensures ∙ ap (λ (b : Bool). b && c.args.self.now.opened) is) ∙ c.if-over.true,
    ) refl

pub returns-clause-told : goal.returns-clause-told
returns-clause-told c = λ d is.
    rw (
      c.if-finished.false,
      sym c.is_channel_0-first.ensures ∙ c.if-first.false,
      sym
          (c.both-over.ensures ∙ ap (λ (b : Bool). b && c.args.self.now.opened) is) ∙ c.if-over.false,
    ) refl
