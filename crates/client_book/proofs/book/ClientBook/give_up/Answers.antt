use Rattle.std.proofs.Common.{inl, inr, refl, sym, ◌∙◌}
use Rattle.client_book.proofs.Turned.{leaves, or_then, rests_of}
use Rattle.client_book.proofs.book.ClientBook.give_up.Goals as goal

pub returns-then-live : goal.returns-then-live
returns-then-live c =
    let old = c.args.self.now in
    inr (inr (
      rests_of old old c.requires (leaves old old refl refl refl),
      refl,
      refl,
      λ d shown. sym (c.is_live-live.ensures d shown) ∙ c.if-live.true,
    ))

pub returns : goal.returns
returns c =
    or_then c.give.result c.give.new.self (λ h. inl (h.0, h.1, λ d shown. sym (c.is_live-live.ensures d shown) ∙ c.if-live.false))
    c.give.ensures
