use Rattle.std.proofs.Common.{◌≡◌, ◌+◌, ◌<◌, false, List, [], ◌∷◌, length, vec_capacity, refl, ap, sym, ◌∙◌, subst, arith, inl, inr}
use Rattle.std.proofs.lemmas.Grind.{common_steps}
use Rattle.base_lists.specs.number_set.Members.{has}
use Rattle.client_rows.specs.declared.operation_rows.row.Row.{Row}
use Rattle.client_rows.specs.operation_rows.Rows.{no_row}
use Rattle.client_rows.specs.operation_rows.Holding.{IsSafe}
use Rattle.client_rows.specs.operation_rows.Choosing.{RowCounts}
use Rattle.client_rows.specs.operation_rows.Moves.{StandsRows}
use Rattle.client_rows.specs.Shown.{fills_by, waits_by}
use Rattle.client_tables.specs.whole_table.Shown.{FitsParts, ShowsParts}
use Rattle.client_tables.proofs.whole_table.Ready.{on_err}
use Rattle.client_steps.proofs.taking.First.{empty_of, first_fits, first_rows, first_shown, none_out, some_there}
use Rattle.client_steps.proofs.taking.Roomed.{out_moved, roomed, rows_anew, same_least}
use Rattle.client_steps.proofs.taking.rooms.make_first.Goals as goal

pub returns-then-not-is_empty : goal.returns-then-not-is_empty
returns-then-not-is_empty c =
    let t = c.args.table.now in
    let k : length t.rows.items ≡ t.rows.len = grind (arith, common_steps) in
    record {
      fits = c.requires.fits;
      some = subst (λ n. 0 < n) (sym k) (some_there t.rows.len (sym c.is_empty.ensures ∙ c.if-not-is_empty.true));
      rows = inl refl;
      same = tt;
      shown = λ d s. s;
    }

pub reserve-requires : goal.reserve-requires
reserve-requires c = record { fits = c.requires.fits.out.fits }

pub returns-in_err-reserve-clause-fits : goal.returns-in_err-reserve-clause-fits
returns-in_err-reserve-clause-fits c =
    let t = c.args.table.now in
    let f = c.requires.fits in
    let e = c.reserve.ensures in
    let rows = t.rows.items in
    roomed rows t.holders.items t.prices t.prices t.watchers t.watchers t.out c.reserve.new.self t.lowest (length t.ops.items)
    (length t.settled.items) (length t.order.items) (vec_capacity t.order) (vec_capacity t.order) f.counts
    (out_moved rows t.out c.reserve.new.self e.fits e.size e.has f.out) (same_least (vec_capacity t.order)) f

pub returns-in_err-reserve-clause-rows : goal.returns-in_err-reserve-clause-rows
returns-in_err-reserve-clause-rows c = inl refl

pub returns-in_err-reserve-clause-same : goal.returns-in_err-reserve-clause-same
returns-in_err-reserve-clause-same c = on_err c.from_residual.result refl

pub returns-in_err-reserve-clause-shown : goal.returns-in_err-reserve-clause-shown
returns-in_err-reserve-clause-shown c = λ d s. s

pub begin-requires : goal.begin-requires
begin-requires c =
    let t = c.args.table.now in
    let k : length t.rows.items ≡ t.rows.len = grind (arith, common_steps) in
    record {
      none = empty_of t.rows.items t.rows.len k (sym c.is_empty.ensures ∙ c.if-not-is_empty.false);
      counts = c.requires.fits.counts;
    }

pub returns-in_err-begin-clause-fits : goal.returns-in_err-begin-clause-fits
returns-in_err-begin-clause-fits c =
    let t = c.args.table.now in
    let f = c.requires.fits in
    let e = c.reserve.ensures in
    let rows = t.rows.items in
    let k : length rows ≡ t.rows.len = grind (arith, common_steps) in
    let none = empty_of rows t.rows.len k (sym c.is_empty.ensures ∙ c.if-not-is_empty.false) in
    let same : c.begin.new.rows.items ≡ rows = c.in_err-begin.ensures.err ∙ sym none in
    let prices = c.begin.new.prices in
    let watchers = c.begin.new.watchers in
    subst (λ (xs : List Row). FitsParts xs t.holders.items prices watchers c.reserve.new.self t.lowest (length t.ops.items)
    (length t.settled.items) (length t.order.items) (vec_capacity t.order)) (sym same)
    (roomed rows t.holders.items t.prices prices t.watchers watchers t.out c.reserve.new.self t.lowest (length t.ops.items)
    (length t.settled.items) (length t.order.items) (vec_capacity t.order) (vec_capacity t.order)
    (subst (λ (xs : List Row). RowCounts xs prices watchers) same c.begin.ensures.counts)
    (out_moved rows t.out c.reserve.new.self e.fits e.size e.has f.out) (same_least (vec_capacity t.order)) f)

pub returns-in_err-begin-clause-rows : goal.returns-in_err-begin-clause-rows
returns-in_err-begin-clause-rows c =
    let t = c.args.table.now in
    let k : length t.rows.items ≡ t.rows.len = grind (arith, common_steps) in
    inl (c.in_err-begin.ensures.err ∙ sym (empty_of t.rows.items t.rows.len k (sym c.is_empty.ensures ∙ c.if-not-is_empty.false)))

pub returns-in_err-begin-clause-same : goal.returns-in_err-begin-clause-same
returns-in_err-begin-clause-same c =
    let t = c.args.table.now in
    let k : length t.rows.items ≡ t.rows.len = grind (arith, common_steps) in
    on_err c.from_residual-in_err-begin.result
    (c.in_err-begin.ensures.err ∙ sym (empty_of t.rows.items t.rows.len k (sym c.is_empty.ensures ∙ c.if-not-is_empty.false)))

pub returns-in_err-begin-clause-shown : goal.returns-in_err-begin-clause-shown
returns-in_err-begin-clause-shown c = λ d s.
    let t = c.args.table.now in
    let rows = t.rows.items in
    let k : length rows ≡ t.rows.len = grind (arith, common_steps) in
    let none = empty_of rows t.rows.len k (sym c.is_empty.ensures ∙ c.if-not-is_empty.false) in
    let same : c.begin.new.rows.items ≡ rows = c.in_err-begin.ensures.err ∙ sym none in
    let prices = c.begin.new.prices in
    let watchers = c.begin.new.watchers in
    let st = subst (λ (xs : List Row). StandsRows (waits_by d.op) (fills_by d.op) xs t.holders.items prices watchers) same
    (c.begin.ensures.stands (waits_by d.op) (fills_by d.op) t.holders.items s.rows.stand) in
    subst (λ (xs : List Row). ShowsParts t.session xs t.holders.items prices watchers t.ops.items t.settled.items t.order.items
    t.dialogs.items d) (sym same)
    (rows_anew t.session rows t.holders.items t.prices prices t.watchers watchers t.ops.items t.settled.items t.order.items t.dialogs.items
    d s (record { places = s.rows.places; sends = s.rows.sends; stand = st }))

pub add-requires : goal.add-requires
add-requires c =
    let t = c.args.table.now in
    let e = c.reserve.ensures in
    let k : length t.rows.items ≡ t.rows.len = grind (arith, common_steps) in
    let none = empty_of t.rows.items t.rows.len k (sym c.is_empty.ensures ∙ c.if-not-is_empty.false) in
    let n = none_out t.rows.items t.out none c.requires.fits.out in
    let m = e.size in
    record { fits = e.fits; few = omega arith; room = c.in_ok-reserve.ensures.room }

pub returns : goal.returns
returns c =
    let t = c.args.table.now in
    let f = c.requires.fits in
    let e = c.reserve.ensures in
    let a = c.add.ensures in
    let rows = t.rows.items in
    let k : length rows ≡ t.rows.len = grind (arith, common_steps) in
    let none = empty_of rows t.rows.len k (sym c.is_empty.ensures ∙ c.if-not-is_empty.false) in
    let new = c.begin.new.rows.items in
    let one : new ≡ no_row ∷ [] = c.in_ok-begin.ensures.ok in
    let prices = c.begin.new.prices in
    let watchers = c.begin.new.watchers in
    let made = c.add.new.self in
    let n = e.size ∙ none_out rows t.out none f.out in
    record {
      fits = subst (λ (xs : List Row). FitsParts xs t.holders.items prices watchers made t.lowest (length t.ops.items)
          (length t.settled.items) (length t.order.items) (vec_capacity t.order)) (sym one)
          (first_fits t.holders.items t.prices prices t.watchers watchers t.out made t.lowest (length t.ops.items)
          (length t.settled.items) (length t.order.items) (vec_capacity t.order)
          (subst (λ (xs : List Row). IsSafe xs t.holders.items) one (c.in_ok-begin.ensures.safe t.holders.items))
          (subst (λ (xs : List Row). RowCounts xs prices watchers) one c.begin.ensures.counts)
          a.fits (a.size ∙ ap (λ x. x + 1) n) (subst (λ x. has made x ≡ false) n a.apart)
          (subst (λ (xs : List Row). FitsParts xs t.holders.items t.prices t.watchers t.out t.lowest (length t.ops.items)
          (length t.settled.items) (length t.order.items) (vec_capacity t.order)) none f));
      some = subst (λ (xs : List Row). 0 < length xs) (sym one) (omega arith);
      rows = inr (none, one);
      same = tt;
      shown = λ d s. subst (λ (xs : List Row). ShowsParts t.session xs t.holders.items prices watchers t.ops.items t.settled.items
          t.order.items t.dialogs.items d) (sym one)
          (let was = subst (λ (xs : List Row). ShowsParts t.session xs t.holders.items t.prices t.watchers t.ops.items t.settled.items
          t.order.items t.dialogs.items d) none s in
          first_shown t.session t.holders.items t.prices prices t.watchers watchers t.ops.items t.settled.items t.order.items
          t.dialogs.items d was
          (first_rows t.holders.items t.prices prices t.watchers watchers d
          (subst (λ (xs : List Row). StandsRows (waits_by d.op) (fills_by d.op) xs t.holders.items prices watchers) one
          (c.begin.ensures.stands (waits_by d.op) (fills_by d.op) t.holders.items s.rows.stand)) was.rows));
    }
