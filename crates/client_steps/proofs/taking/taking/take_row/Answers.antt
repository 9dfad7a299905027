use Rattle.std.proofs.Common.{◌≡◌, ℕ, ◌+◌, ◌<◌, ◌≤◌, List, [], ◌∷◌, ◌++◌, length, vec_capacity, is_some, refl, ap, sym, ◌∙◌, subst, arith}
use Rattle.std.proofs.lemmas.List.{length_push}
use Rattle.spec_exchange.specs.Client.{take_op}
use Rattle.client_values.specs.declared.operations.values.OpKind.{OpKind}
use Rattle.client_values.specs.operations.Meaning.{op_of}
use Rattle.client_rows.specs.declared.operation_rows.row.Row.{Row}
use Rattle.client_rows.specs.operation_rows.Holding.{IsSafe}
use Rattle.client_rows.specs.operation_rows.Choosing.{RowCounts}
use Rattle.client_values.specs.declared.outcomes.outcome.Outcome.{Outcome as Settled}
use Rattle.client_rows.proofs.open_marks.Lower.{mark_below}
use Rattle.client_rows.specs.Shown.{ShowsRows}
use Rattle.client_tables.specs.opens.Opened.{placed_row}
use Rattle.client_tables.specs.whole_table.Shown.{FitsParts, ShowsParts}
use Rattle.client_tables.proofs.whole_table.Ready.{on_err}
use Rattle.client_steps.proofs.taking.Grown.{grown_fits, grown_out, grown_shown}
use Rattle.client_steps.proofs.taking.Roomed.{roomed, rows_anew, same_least}
use Rattle.client_steps.proofs.taking.taking.take_row.Goals as goal

below : (x n : ℕ) → x ≤ n → x < n + 1
below x n l = omega arith

pub take_on-requires : goal.take_on-requires
take_on-requires c =
    record {
      counts = c.requires.fits.counts;
      few = c.requires.few;
      close = c.requires.below.close;
      mark = mark_below c.args.shape.now.kind c.args.opened.now.marks (length c.args.table.now.rows.items) c.requires.below;
    }

pub push_reserved-requires : goal.push_reserved-requires
push_reserved-requires c = c.requires.room.ops

pub push_reserved-requires-2 : goal.push_reserved-requires-2
push_reserved-requires-2 c = c.requires.room.settled

pub add-requires : goal.add-requires
add-requires c =
    let f = c.requires.fits.out in
    let e = f.sized in
    let h = c.requires.few in
    record { fits = f.fits; few = omega arith; room = c.requires.room.out }

pub returns : goal.returns
returns c =
    let t = c.args.table.now in
    let o = c.args.opened.now in
    let f = c.requires.fits in
    let u = c.in_ok-take_on.ensures in
    let a = c.add.ensures in
    let rows = t.rows.items in
    let hs = c.take_on.new.holders.items in
    let r = placed_row c.args.row (length t.holders.items) (length hs) o.marks in
    let new = c.take_on.new.rows.items in
    let prices = c.take_on.new.prices in
    let watchers = c.take_on.new.watchers in
    let made = c.add.new.self in
    let ops = c.push_reserved.new.self.items in
    let settled = c.push_reserved-2.new.self.items in
    let e : new ≡ rows ++ r ∷ [] = u.row in
    let i : ops ≡ t.ops.items ++ c.args.kind ∷ [] = c.push_reserved.ensures.items in
    let j : settled ≡ t.settled.items ++ c.args.outcome ∷ [] = c.push_reserved-2.ensures.items in
    let m = ap (λ (xs : List OpKind). length xs) i ∙ length_push t.ops.items c.args.kind in
    let k = ap (λ (xs : List Settled). length xs) j ∙ length_push t.settled.items c.args.outcome in
    record {
      row = u.row;
      same = tt;
      below = u.below c.requires.below;
      topped = u.topped c.requires.topped;
      tops = tt;
      last = u.last;
      marks = tt;
      fits = subst (λ (xs : List Row). FitsParts xs hs prices watchers made t.lowest (length ops) (length settled)
          (length t.order.items) (vec_capacity t.order)) (sym e)
          (subst (λ x. FitsParts (rows ++ r ∷ []) hs prices watchers made t.lowest x (length settled) (length t.order.items)
          (vec_capacity t.order)) (sym m)
          (subst (λ x. FitsParts (rows ++ r ∷ []) hs prices watchers made t.lowest (length t.ops.items + 1) x (length t.order.items)
          (vec_capacity t.order)) (sym k)
          (grown_fits rows r t.holders.items hs t.prices prices t.watchers watchers t.out made t.lowest (length t.ops.items)
          (length t.settled.items) (length t.order.items) (vec_capacity t.order)
          (subst (λ (xs : List Row). IsSafe xs hs) e (u.secure f.safe c.requires.some c.requires.own c.requires.below c.requires.topped))
          (subst (λ (xs : List Row). RowCounts xs prices watchers) e c.take_on.ensures.counts)
          (grown_out rows r t.out made a.fits a.size a.has a.apart (ap (λ x. is_some x) c.requires.unsent) f.out)
          c.requires.some
          c.requires.above (below c.args.row.create (length rows) c.requires.own) c.requires.room.order f)));
      shown = λ d create w. subst (λ (xs : List Row). ShowsParts t.session xs hs prices watchers ops settled t.order.items
          t.dialogs.items (take_op d (length rows) (op_of c.args.kind))) (sym e)
          (subst (λ (xs : List OpKind). ShowsParts t.session (rows ++ r ∷ []) hs prices watchers xs settled t.order.items
          t.dialogs.items (take_op d (length rows) (op_of c.args.kind))) (sym i)
          (subst (λ (xs : List Settled). ShowsParts t.session (rows ++ r ∷ []) hs prices watchers (t.ops.items ++ c.args.kind ∷ []) xs
          t.order.items t.dialogs.items (take_op d (length rows) (op_of c.args.kind))) (sym j)
          (grown_shown rows r d (op_of c.args.kind) w.next t.session t.holders.items hs t.prices prices t.watchers watchers t.ops.items
          t.settled.items t.order.items t.dialogs.items c.args.kind c.args.outcome refl w.first w.limits w.shown
          (subst (λ (xs : List Row). ShowsRows xs hs prices watchers (take_op d (length rows) (op_of c.args.kind))) e
          (u.shown d (op_of c.args.kind) create f.safe w.shown.rows w.next w.on w.marked)))));
      keeps = λ d create w. u.keeps d (op_of c.args.kind) create f.safe w.shown.rows w.next w.on w.marked;
      others = λ d other m2 written locked h s. u.others d (op_of c.args.kind) other m2 written locked h s;
      still = tt;
      kept = tt;
      stays = tt;
    }

pub returns-in_err-take_on-clause-same : goal.returns-in_err-take_on-clause-same
returns-in_err-take_on-clause-same c = on_err c.from_residual.result c.in_err-take_on.ensures.same

pub returns-in_err-take_on-clause-marks : goal.returns-in_err-take_on-clause-marks
returns-in_err-take_on-clause-marks c = on_err c.from_residual.result c.in_err-take_on.ensures.marks

pub returns-in_err-take_on-clause-still : goal.returns-in_err-take_on-clause-still
returns-in_err-take_on-clause-still c =
    let t = c.args.table.now in
    let f = c.requires.fits in
    let u = c.in_err-take_on.ensures in
    let prices = c.take_on.new.prices in
    let watchers = c.take_on.new.watchers in
    on_err c.from_residual.result
    (subst (λ (xs : List Row). FitsParts xs c.take_on.new.holders.items prices watchers t.out t.lowest (length t.ops.items)
    (length t.settled.items) (length t.order.items) (vec_capacity t.order)) (sym u.same)
    (subst (λ (xs : List ℕ). FitsParts t.rows.items xs prices watchers t.out t.lowest (length t.ops.items) (length t.settled.items)
    (length t.order.items) (vec_capacity t.order)) (sym u.unlisted)
    (roomed t.rows.items t.holders.items t.prices prices t.watchers watchers t.out t.out t.lowest (length t.ops.items)
    (length t.settled.items) (length t.order.items) (vec_capacity t.order) (vec_capacity t.order)
    (subst (λ (xs : List Row). RowCounts xs prices watchers) u.same c.take_on.ensures.counts) f.out (same_least (vec_capacity t.order)) f)))

pub returns-in_err-take_on-clause-kept : goal.returns-in_err-take_on-clause-kept
returns-in_err-take_on-clause-kept c =
    let t = c.args.table.now in
    let u = c.in_err-take_on.ensures in
    let prices = c.take_on.new.prices in
    let watchers = c.take_on.new.watchers in
    let hs = c.take_on.new.holders.items in
    on_err c.from_residual.result (λ d s. subst (λ (xs : List Row). ShowsParts t.session xs hs prices watchers t.ops.items
    t.settled.items t.order.items t.dialogs.items d) (sym u.same)
    (subst (λ (xs : List ℕ). ShowsParts t.session t.rows.items xs prices watchers t.ops.items t.settled.items t.order.items
    t.dialogs.items d) (sym u.unlisted)
    (rows_anew t.session t.rows.items t.holders.items t.prices prices t.watchers watchers t.ops.items t.settled.items t.order.items
    t.dialogs.items d s
    (subst (λ (xs : List ℕ). ShowsRows t.rows.items xs prices watchers d) u.unlisted
    (subst (λ (xs : List Row). ShowsRows xs hs prices watchers d) u.same (u.kept d s.rows))))))

pub returns-in_err-take_on-clause-tops : goal.returns-in_err-take_on-clause-tops
returns-in_err-take_on-clause-tops c =
    on_err c.from_residual.result
    (c.in_err-take_on.ensures.tops (length c.args.table.now.rows.items) c.requires.topped)

pub returns-in_err-take_on-clause-stays : goal.returns-in_err-take_on-clause-stays
returns-in_err-take_on-clause-stays c =
    on_err c.from_residual.result c.in_err-take_on.ensures.stays
