use Rattle.std.proofs.Common.{ℕ, ◌<◌, true, List, length, sym, ◌∙◌, subst}
use Rattle.law_client.proofs.table.Chosen.{is_less}
use Rattle.client_rows.specs.operation_rows.Rows.{row_at, owner}
use Rattle.client_rows.proofs.operation_rows.Walking.{positive}
use Rattle.client_rows.specs.open_marks.Marks.{IsHighest}
use Rattle.client_tables.specs.declared.opens.opening.Open.{Open}
use Rattle.client_steps.proofs.responses.Heard.{not_below, not_zero}
use Rattle.client_steps.specs.submitting.Marked.{IsMarkedAt}
use Rattle.client_steps.proofs.whole_client.client.Client.last_of.Goals as goal

pub returns-then-index-eq0 : goal.returns-then-index-eq0
returns-then-index-eq0 c = λ p l. absurd (not_zero c.args.index c.if-index-eq0.true p)

pub returns-then-not-has_row : goal.returns-then-not-has_row
returns-then-not-has_row c = λ p l. absurd (not_below c.args.index (length c.args.self.now.table.rows.items)
    (sym c.has_row.ensures ∙ c.if-not-has_row.true) l)

pub open_of-at-requires : goal.open_of-at-requires
open_of-at-requires c =
    is_less c.args.index (length c.args.self.now.table.rows.items) (sym c.has_row.ensures ∙ c.if-not-has_row.false)

pub last_at-requires : goal.last_at-requires
last_at-requires c =
    let x = c.args.self.now in
    let f = c.requires.fits in
    let l = is_less c.args.index (length x.table.rows.items) (sym c.has_row.ensures ∙ c.if-not-has_row.false) in
    let p = positive c.args.index c.if-index-eq0.false in
    subst (λ (xs : List Open). c.open_of-at.result < length xs) (sym c.deref.ensures.value)
    (subst (λ n. c.open_of-at.result < n) (sym f.whole.counted)
    (subst (λ y. y < length x.attached.items) (sym c.open_of-at.ensures) (f.whole.opens.opens c.args.index p l)))

pub returns : goal.returns
returns c = λ p l.
    let x = c.args.self.now in
    let rows = x.table.rows.items in
    let g = c.args.index in
    let w = c.last_at.ensures in
    let is : IsMarkedAt x.marks.items (row_at rows g).«open» w.0 =
    subst (λ (i : ℕ). IsMarkedAt x.marks.items i w.0) c.open_of-at.ensures
    (subst (λ (xs : List Open). IsMarkedAt xs c.open_of-at.result w.0) c.deref.ensures.value w.1) in
    subst (λ (n : ℕ). IsHighest (owner rows) (λ h. true) (owner rows g) (length rows) n) (sym w.2)
    (c.requires.fits.whole.marked.lasts g w.0 p l is)
