use Rattle.std.proofs.Common.{sym, subst, ◌∙◌, Option}
use Rattle.store_opens.specs.open_table.Rows.{OpenRowFound}
use Rattle.store_opens.specs.declared.open_table.row.Row.{Row}
use Rattle.store_opens.proofs.open_table.Refused.{refused_absent, refused_row}
use Rattle.store_opens.proofs.open_table.table.Opens.attach_refusal.Goals as goal

pub returns-in-Some : goal.returns-in-Some
returns-in-Some c = λ s h. c.row_refusal.ensures ∙ refused_row s c.args.id c.args.guid c.args.session c.args.user.now
    c.in-Some.row.now (subst (λ (r : Option Row). OpenRowFound r s c.args.id) (sym c.in-Some.ensures.value)
    (h.rows_are c.args.id))

pub returns-in-None : goal.returns-in-None
returns-in-None c = λ s h. refused_absent s c.args.id c.args.guid c.args.session c.args.user.now
    (subst (λ (r : Option Row). OpenRowFound r s c.args.id) (sym c.in-None.ensures.value) (h.rows_are c.args.id))
