use Rattle.std.proofs.Common.{subst, sym}
use Rattle.client_steps.specs.whole_client.Shown.{ShowsClient}
use Rattle.client_steps.specs.declared.whole_client.client.Client.{Client as Core}
use Rattle.client_book.proofs.book.ClientBook.is_live.Goals as goal

pub returns : goal.returns
returns c = λ d s. (let t = subst (λ (x : Core). ShowsClient x d) (sym c.client.ensures) s in c.is_live.ensures d t.table.session)
