use Rattle.std.proofs.Common.{◌∙◌, subst, sym}
use Rattle.client_steps.specs.whole_client.Shown.{ShowsClient}
use Rattle.client_steps.specs.declared.whole_client.client.Client.{Client as Core}
use Rattle.client_book.proofs.book.ClientBook.begin.Goals as goal

pub returns : goal.returns
returns c =
    let l = c.begin_by.ensures.client in (
      record {
        lasts = record { salt = l.salt; going = l.stopped ∙ c.requires };
        shown = λ d s. subst (λ (x : Core). ShowsClient x d) (sym l.client) (c.is_settled-settled.ensures.shown d s);
      },
      c.begin_by.ensures.shared,
      c.begin_by.ensures.next,
      λ d s. c.begin_by.ensures.told d (c.is_settled-settled.ensures.shown d s) (c.is_settled-settled.ensures.told d s),
    )
