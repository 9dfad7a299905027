use Rattle.std.proofs.Common.{◌<◌, List, length, sym, subst}
use Rattle.std.proofs.lemmas.Result.{IfOk-weaker}
use Rattle.client_rows.specs.operation_rows.Rows.{row_at}
use Rattle.client_tables.specs.declared.attached_opens.opened.Opened.{Opened}
use Rattle.client_tables.specs.attached_opens.Known.{ShowsOpened}
use Rattle.client_events.proofs.played_client.sent.own.Goals as goal

pub own_request-requires : goal.own_request-requires
own_request-requires c =
    let w = c.requires.fits.whole in
    let x = c.args.index in
    let place = (row_at c.args.client.now.table.rows.items x).«open» in
    record {
      fits = w.table;
      above = c.requires.above;
      within = c.requires.within;
      known = subst (λ (xs : List Opened). place < length xs) (sym c.deref.ensures.value)
          (subst (λ n. place < n) (sym w.known) (w.opens.opens x c.requires.above c.requires.within));
    }

pub returns : goal.returns
returns c =
    let rows = c.args.client.now.table.rows.items in
    IfOk-weaker c.own_request.result _ _
    (λ q is d s e. is d s.table (subst (λ (xs : List Opened). ShowsOpened rows xs d) (sym c.deref.ensures.value) s.opened) e)
    c.own_request.ensures
