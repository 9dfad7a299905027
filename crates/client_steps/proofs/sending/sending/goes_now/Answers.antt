use Rattle.std.proofs.Common.{◌≡◌, ◌<◌, ◌||◌, List, length, sym, subst}
use Rattle.spec_exchange.specs.Client.{is_attached}
use Rattle.client_rows.specs.declared.operation_rows.row.Row.{Row}
use Rattle.client_rows.specs.operation_rows.Rows.{row_at}
use Rattle.client_rows.specs.open_marks.Marks.{is_create_kind}
use Rattle.client_steps.proofs.sending.sending.goes_now.Goals as goal

pub goes_itself-requires : goal.goes_itself-requires
goes_itself-requires c = subst (λ (xs : List Row). c.args.index < length xs) (sym c.deref.ensures.value) c.requires

pub returns : goal.returns
returns c = λ d create s e.
    subst (λ (xs : List Row). c.goes_itself.result ≡ (is_create_kind (row_at xs c.args.index).kind || is_attached d create))
    c.deref.ensures.value (c.goes_itself.ensures d create s e)
