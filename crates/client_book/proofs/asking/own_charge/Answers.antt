use Rattle.std.proofs.Common.{◌≡◌, ◌≤◌, List, length, sym, ap, subst, ◌∙◌}
use Rattle.std.specs.Prelude.{slice_index_or}
use Rattle.client_steps.specs.declared.whole_client.client.Client.{Client as Core}
use Rattle.client_rows.specs.declared.operation_rows.row.Row.{Row}
use Rattle.client_rows.specs.operation_rows.Rows.{no_row}
use Rattle.client_book.proofs.Asked.{not_past, same}
use Rattle.client_book.proofs.asking.own_charge.Goals as goal

pub returns-in-Some : goal.returns-in-Some
returns-in-Some c = λ d shown p l.
    let g = c.args.number in
    let items : c.deref.result.now ≡ c.args.client.now.table.rows.items =
    c.deref.ensures.value ∙ ap (λ (x : Core). x.table.rows.items) c.client.ensures in
    let row : c.in-Some.row.now ≡ slice_index_or c.deref.result.now g no_row = c.in-Some.ensures.lookup.4 (same g) no_row in
    ap (λ (r : Row). r.charge) (row ∙ ap (λ (rows : List Row). slice_index_or rows g no_row) items)
    ∙ sym (shown.table.rows.places.charges g p l)

pub returns-in-None : goal.returns-in-None
returns-in-None c = λ d shown p l.
    let g = c.args.number in
    let items : c.deref.result.now ≡ c.args.client.now.table.rows.items =
    c.deref.ensures.value ∙ ap (λ (x : Core). x.table.rows.items) c.client.ensures in
    absurd (not_past g (length c.args.client.now.table.rows.items)
    (subst (λ (rows : List Row). length rows ≤ g) items c.in-None.ensures.lookup.3) (shown.table.rows.places.has_row g p l))
