use Rattle.std.proofs.Common.{◌≡◌, ℕ, ◌<◌, ◌≤◌, true, length, ap, sym, ◌∙◌, subst, arith}
use Rattle.spec_exchange.specs.Operations.{is_create}
use Rattle.spec_exchange.specs.Client.{Client}
use Rattle.law_client.specs.table.Kept.{TableKept}
use Rattle.client_values.specs.operations.Meaning.{op_of}
use Rattle.client_rows.specs.declared.operation_rows.row.Row.{Row}
use Rattle.base_lists.specs.range_index.Shown.{top}
use Rattle.client_values.specs.declared.outcomes.outcome.Outcome.TheVariants as outcomes
use Rattle.client_values.specs.declared.outcomes.outcome.Why.TheVariants as causes
use Rattle.client_tables.specs.settling.Shown.{outcome_by}
use Rattle.client_tables.specs.opens.Opened.{IsOpenOn, placed_row}
use Rattle.client_tables.specs.whole_table.Shown.{ShowsTable}
use Rattle.client_steps.specs.taking.Taken.{OperationTakesOn}
use Rattle.client_steps.proofs.taking.Roomed.{ok_more}
use Rattle.client_steps.specs.submits_on_opens.Keeping.{SubmitKeeps}
use Rattle.client_steps.proofs.submits_on_opens.Stood.{ok_two}
use Rattle.client_steps.proofs.creating.Alone.{first_so, next_one, row_on_own}
use Rattle.client_steps.proofs.creating.creating.take_alone.Goals as goal

same_least : (n : ℕ) → n ≤ n
same_least n = omega arith

pub of-shape-requires : goal.of-shape-requires
of-shape-requires c = c.requires.limits

pub overflow_cast-number : goal.overflow_cast-number
overflow_cast-number c = let f = c.requires.few in let e = c.count_of-number.ensures in omega arith

pub take_row-requires : goal.take_row-requires
take_row-requires c =
    let rows = c.args.table.now.rows.items in
    let is = ap (λ (w : Row). w.create) c.new_row-row.ensures ∙ c.count_of-number.ensures in
    record {
      fits = c.requires.fits;
      some = c.requires.some;
      few = c.requires.few;
      room = c.requires.room;
      below = c.requires.below;
      topped = c.requires.topped;
      above = subst (λ y. 0 < y) (sym is) c.requires.some;
      own = subst (λ y. y ≤ length rows) (sym is) (same_least (length rows));
      unsent = ap (λ (w : Row). w.outstanding_on) c.new_row-row.ensures;
    }

pub returns : goal.returns
returns c =
    let t = c.args.table.now in
    let rows = t.rows.items in
    let op = op_of c.args.kind in
    let shape = c.of-shape.result in
    let sh = c.of-shape.ensures in
    let number = c.count_of-number.result in
    let counted : number ≡ length rows = c.count_of-number.ensures in
    let r = c.new_row-row.result in
    let made = c.new_row-row.ensures in
    let e = c.take_row.ensures in
    let first = outcomes.Unknown causes.Ended in
    let create_is : r.create ≡ length rows = ap (λ (w : Row). w.create) made ∙ counted in
    let takes : (d : Client) → ShowsTable t d → TableKept d → is_create op ≡ true → SubmitKeeps rows (length rows) d.op
    (length rows) c.args.mark.now
    → OperationTakesOn t c.args.mark.now d op (length rows) shape r first = (λ d s kept is marked. record {
      shown = s;
      next = next_one rows t.holders.items t.prices t.watchers d op s.rows kept s.bounds c.requires.some is c.requires.limits;
      on = subst (λ (w : Row). IsOpenOn rows d op (length rows) (length rows) shape w) (sym made)
          (row_on_own rows t.holders.items t.prices t.watchers d op s.rows kept s.bounds c.requires.some is c.requires.limits shape number
          c.args.«open» sh.kind sh.at sh.size sh.charge counted);
      marked = marked;
      limits = c.requires.limits;
      first = first_so d (length rows) op first is ∙ ap (λ (w : Row). outcome_by w.unsettled first) (sym made);
    }) in
    record {
      row = ok_more c.take_row.result (λ q. (
        placed_row r (length t.holders.items) (length c.take_row.new.table.holders.items) c.args.mark.now.marks,
        q,
        create_is,
        ap (λ (w : Row). w.«open») made,
        ap (λ (w : Row). w.kind) made ∙ sh.kind,
      )) e.row;
      below = e.below;
      topped = e.topped;
      last = e.last;
      fits = e.fits;
      joined = ok_two c.take_row.result (λ g k d s kept is marked. (
        g d (length rows) (takes d s kept is marked),
        k d (length rows) (takes d s kept is marked),
      )) e.shown e.keeps;
      others = ok_more c.take_row.result (λ h d other mark apart s. h d other mark.marks (top mark.written) (top mark.locked)
          (λ q. apart (sym create_is ∙ q)) s) e.others;
      same = e.same;
      still = e.still;
      kept = e.kept;
    }
