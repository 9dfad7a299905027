use Rattle.std.proofs.Common.{◌≡◌, ℕ, ◌+◌, ◌<◌, List, [], ◌∷◌, ◌++◌, length, refl, ap, sym, subst, ◌∙◌, arith}
use Rattle.base_lists.specs.range_index.Shown.{top}
use Rattle.client_rows.specs.declared.operation_rows.row.Row.{Row}
use Rattle.client_rows.specs.operation_rows.Rows.{stands}
use Rattle.client_rows.specs.operation_rows.Holding.{IsSafe}
use Rattle.client_rows.specs.operation_rows.Moves.{StandsRows}
use Rattle.client_rows.proofs.operation_rows.Growing.{on_err}
use Rattle.client_rows.specs.declared.open_marks.marks.Marks.{Marks}
use Rattle.client_rows.specs.open_marks.Marks.{AreMarksBelow, Heights, ListsHolders, mark_of, top_of}
use Rattle.client_values.specs.declared.operations.shapes.Kind.{Kind}
use Rattle.client_rows.specs.Shown.{ShowsRows, fills_by, waits_by}
use Rattle.client_tables.proofs.submits.Taken.{kept_shown}
use Rattle.client_tables.specs.opens.Opened.{OpenBehind, placed_row}
use Rattle.client_tables.proofs.opens.Joined.{AddsSafe, AddsShown, others_kept, stays_shown, submit_open, submit_safe, submit_shown}
use Rattle.client_tables.proofs.opens.Secure.{secure, topped_behind}
use Rattle.client_tables.proofs.opens.submitting.take_on.Goals as goal

below_more : (m : Marks) (n : ℕ) → AreMarksBelow m n → AreMarksBelow m (n + 1)
below_more m n b =
    let l = b.last in
    let c = b.change in
    let f = b.filled in
    let s = b.close in
    let e = b.end in
    let r = b.barrier in
    record { last = omega arith; change = omega arith; filled = omega arith; close = omega arith; end = omega arith; barrier = omega arith }

pub overflow_cast-number : goal.overflow_cast-number
overflow_cast-number c =
    let e : c.count_of-count.result ≡ length c.args.rows.now.items = c.count_of-count.ensures
    ∙ ap (λ (xs : List Row). length xs) c.make_room.ensures.same in
    let f = c.requires.few in
    omega arith

pub note-requires : goal.note-requires
note-requires c =
    let m = c.args.opened.now.marks in
    let e : c.deref.result.now ≡ c.args.rows.now.items = c.deref.ensures.value ∙ c.make_room.ensures.same in
    record {
      close = subst (λ (xs : List Row). m.close < length xs) (sym e) c.requires.close;
      mark = subst (λ (xs : List Row). mark_of c.args.shape.now.kind m < length xs) (sym e) c.requires.mark;
    }

pub returns-clause-shown : goal.returns-clause-shown
returns-clause-shown c = λ d op create safe s next on was.
    let e = c.make_room.ensures.same in
    let old = c.args.rows.now.items in
    let f : c.deref.result.now ≡ old = c.deref.ensures.value ∙ e in
    let r = c.placed-row.result in
    let w = c.args.opened.now in
    let prices1 = c.make_room.new.prices in
    let watchers1 = c.make_room.new.watchers in
    let v = c.in_ok-stretch.ensures in
    let h = c.args.holders.now.items in
    let h2 = c.note.new.holders.items in
    submit_shown old c.args.row r d op create c.args.shape.now w.marks (top w.written) (top w.locked) h h2 c.args.prices.now prices1
    c.args.watchers.now watchers1 c.in_ok-stretch.stretch.begin c.in_ok-stretch.stretch.end
    (λ holds fills hs st. subst (λ (xs : List Row). StandsRows holds fills xs hs prices1 watchers1) e
    (c.make_room.ensures.stands holds fills hs st))
    (c.placed-row.ensures ∙ ap (λ (m : Marks). placed_row c.args.row c.in_ok-stretch.stretch.begin c.in_ok-stretch.stretch.end m)
    c.note.ensures.marks) v.begins v.ends c.note.ensures.goes
    (subst (λ (xs : List Row). ListsHolders (stands xs) w.marks.close (mark_of c.args.shape.now.kind w.marks)
    (λ x. top_of c.args.shape.now.kind (top w.written) (top w.locked) x) c.args.shape.now.at c.args.shape.now.size h h2) f v.listed)
    c.requires.mark safe s next on was c.add_one.new.rows.items c.add_one.new.prices
    (c.add_one.ensures.more ∙ ap (λ (xs : List Row). xs ++ r ∷ []) e)
    (subst (λ (xs : List Row). AddsShown xs c.add_one.new.rows.items prices1 c.add_one.new.prices watchers1 r) e c.add_one.ensures.shown)

pub returns-clause-safe : goal.returns-clause-safe
returns-clause-safe c = λ d op create safe s next on was.
    let e = c.make_room.ensures.same in
    let old = c.args.rows.now.items in
    let f : c.deref.result.now ≡ old = c.deref.ensures.value ∙ e in
    let r = c.placed-row.result in
    let w = c.args.opened.now in
    let prices1 = c.make_room.new.prices in
    let watchers1 = c.make_room.new.watchers in
    let v = c.in_ok-stretch.ensures in
    let h = c.args.holders.now.items in
    let h2 = c.note.new.holders.items in
    submit_safe old c.args.row r d op create c.args.shape.now w.marks (top w.written) (top w.locked) h h2 c.args.prices.now prices1
    c.args.watchers.now watchers1 c.in_ok-stretch.stretch.begin c.in_ok-stretch.stretch.end
    (λ holds fills hs st. subst (λ (xs : List Row). StandsRows holds fills xs hs prices1 watchers1) e
    (c.make_room.ensures.stands holds fills hs st))
    (c.placed-row.ensures ∙ ap (λ (m : Marks). placed_row c.args.row c.in_ok-stretch.stretch.begin c.in_ok-stretch.stretch.end m)
    c.note.ensures.marks) v.begins v.ends c.note.ensures.goes
    (subst (λ (xs : List Row). ListsHolders (stands xs) w.marks.close (mark_of c.args.shape.now.kind w.marks)
    (λ x. top_of c.args.shape.now.kind (top w.written) (top w.locked) x) c.args.shape.now.at c.args.shape.now.size h h2) f v.listed)
    c.requires.mark safe s next on was c.add_one.new.rows.items
    (c.add_one.ensures.more ∙ ap (λ (xs : List Row). xs ++ r ∷ []) e)
    (subst (λ (xs : List Row). AddsSafe xs c.add_one.new.rows.items) e c.add_one.ensures.safe)

pub returns-clause-row : goal.returns-clause-row
returns-clause-row c =
    let v = c.in_ok-stretch.ensures in
    let row = c.args.row in
    c.add_one.ensures.more
    ∙ (λ t. c.make_room.ensures.same t ++ c.placed-row.ensures t ∷ [])
    ∙ (λ t. c.args.rows.now.items ++ placed_row row (v.begins t) (v.ends t) (c.note.ensures.marks t) ∷ [])

pub returns-clause-below : goal.returns-clause-below
returns-clause-below c = λ b.
    let n = length c.args.rows.now.items in
    let number : c.count_of-count.result ≡ n = c.count_of-count.ensures ∙ ap (λ (xs : List Row). length xs) c.make_room.ensures.same in
    c.marked-opened.ensures.below (n + 1)
    (subst (λ (m : Marks). AreMarksBelow m (n + 1)) (sym c.note.ensures.marks) (below_more c.args.opened.now.marks n b))
    (omega arith)

pub returns-clause-last : goal.returns-clause-last
returns-clause-last c =
    c.marked-opened.ensures.last ∙ c.count_of-count.ensures ∙ ap (λ (xs : List Row). length xs) c.make_room.ensures.same

pub returns-clause-keeps : goal.returns-clause-keeps
returns-clause-keeps c = λ d op create safe s next on was.
    let e = c.make_room.ensures.same in
    let old = c.args.rows.now.items in
    let f : c.deref.result.now ≡ old = c.deref.ensures.value ∙ e in
    let r = c.placed-row.result in
    let w = c.args.opened.now in
    let prices1 = c.make_room.new.prices in
    let watchers1 = c.make_room.new.watchers in
    let v = c.in_ok-stretch.ensures in
    let h = c.args.holders.now.items in
    let h2 = c.note.new.holders.items in
    let number : c.count_of-count.result ≡ length old = c.count_of-count.ensures ∙ ap (λ (xs : List Row). length xs) e in
    submit_open old c.args.row r d op create c.args.shape.now w.marks (top w.written) (top w.locked) h h2 c.args.prices.now prices1
    c.args.watchers.now watchers1 c.in_ok-stretch.stretch.begin c.in_ok-stretch.stretch.end
    (λ holds fills hs st. subst (λ (xs : List Row). StandsRows holds fills xs hs prices1 watchers1) e
    (c.make_room.ensures.stands holds fills hs st))
    (c.placed-row.ensures ∙ ap (λ (m : Marks). placed_row c.args.row c.in_ok-stretch.stretch.begin c.in_ok-stretch.stretch.end m)
    c.note.ensures.marks) v.begins v.ends c.note.ensures.goes
    (subst (λ (xs : List Row). ListsHolders (stands xs) w.marks.close (mark_of c.args.shape.now.kind w.marks)
    (λ x. top_of c.args.shape.now.kind (top w.written) (top w.locked) x) c.args.shape.now.at c.args.shape.now.size h h2) f v.listed)
    c.requires.mark safe s next on was c.add_one.new.rows.items c.marked-opened.result (top c.note.new.opened.written)
    (top c.note.new.opened.locked) (c.add_one.ensures.more ∙ ap (λ (xs : List Row). xs ++ r ∷ []) e)
    (subst (λ (m : Marks). (o : ℕ → ℕ) (k : ℕ → Kind) (sizes : ℕ → ℕ) (at : ℕ) → Heights o k sizes at (length old) m
    → o (length old) ≡ at → k (length old) ≡ c.args.shape.now.kind → sizes (length old) ≡ c.args.shape.now.size
    → Heights o k sizes at (length old + 1) c.marked-opened.result) c.note.ensures.marks
    (subst (λ n. (o : ℕ → ℕ) (k : ℕ → Kind) (sizes : ℕ → ℕ) (at : ℕ) → Heights o k sizes at n c.note.new.opened.marks
    → o n ≡ at → k n ≡ c.args.shape.now.kind → sizes n ≡ c.args.shape.now.size → Heights o k sizes at (n + 1) c.marked-opened.result) number
    c.marked-opened.ensures.highest))
    (subst (λ n. OpenBehind c.args.shape.now.kind (top w.written) (top c.note.new.opened.written) (top w.locked)
    (top c.note.new.opened.locked) c.args.shape.now.at c.args.shape.now.size n) number v.covers)

pub returns-clause-others : goal.returns-clause-others
returns-clause-others c = λ d op other m written locked apart s.
    let e = c.make_room.ensures.same in
    let r = c.placed-row.result in
    others_kept c.args.rows.now.items c.add_one.new.rows.items r d op other m written locked [] c.args.watchers.now
    (c.add_one.ensures.more ∙ ap (λ (xs : List Row). xs ++ r ∷ []) e)
    (λ q. apart (sym (ap (λ (w : Row). w.create) c.placed-row.ensures) ∙ q)) s

pub returns-in_err-make_room-clause-kept : goal.returns-in_err-make_room-clause-kept
returns-in_err-make_room-clause-kept c = on_err c.from_residual.result (λ d s.
    kept_shown c.args.rows.now.items c.make_room.new.rows.items c.args.holders.now.items c.args.prices.now c.make_room.new.prices
    c.args.watchers.now c.make_room.new.watchers d c.make_room.ensures.same s
    (c.make_room.ensures.stands (waits_by d.op) (fills_by d.op) c.args.holders.now.items s.stand))

pub returns-in_err-stretch-clause-kept : goal.returns-in_err-stretch-clause-kept
returns-in_err-stretch-clause-kept c = on_err c.from_residual-in_err-stretch.result (λ d s.
    subst (λ (hs : List ℕ). ShowsRows c.make_room.new.rows.items hs c.make_room.new.prices c.make_room.new.watchers d)
    (sym c.in_err-stretch.ensures.kept)
    (kept_shown c.args.rows.now.items c.make_room.new.rows.items c.args.holders.now.items c.args.prices.now c.make_room.new.prices
    c.args.watchers.now c.make_room.new.watchers d c.make_room.ensures.same s
    (c.make_room.ensures.stands (waits_by d.op) (fills_by d.op) c.args.holders.now.items s.stand)))

pub returns-in_err-make_room-clause-stays : goal.returns-in_err-make_room-clause-stays
returns-in_err-make_room-clause-stays c = on_err c.from_residual.result (λ at size create n s.
    let w = c.args.opened.now in
    stays_shown c.args.rows.now.items c.make_room.new.rows.items at size create n w.marks w.marks (top w.written) (top w.written)
    (top w.locked) (top w.locked) c.make_room.ensures.same refl (λ x. refl) (λ x. refl) s)

pub returns-in_err-stretch-clause-stays : goal.returns-in_err-stretch-clause-stays
returns-in_err-stretch-clause-stays c = on_err c.from_residual-in_err-stretch.result (λ at size create n s.
    let w = c.args.opened.now in
    let v = c.note.new.opened in
    stays_shown c.args.rows.now.items c.make_room.new.rows.items at size create n w.marks v.marks (top w.written) (top v.written)
    (top w.locked) (top v.locked) c.make_room.ensures.same c.note.ensures.marks c.in_err-stretch.ensures.stays.0
    c.in_err-stretch.ensures.stays.1 s)

pub returns-in_err-stretch-clause-same : goal.returns-in_err-stretch-clause-same
returns-in_err-stretch-clause-same c = on_err c.from_residual-in_err-stretch.result c.make_room.ensures.same

pub returns-in_err-make_room-clause-same : goal.returns-in_err-make_room-clause-same
returns-in_err-make_room-clause-same c = on_err c.from_residual.result c.make_room.ensures.same

pub returns-in_err-stretch-clause-marks : goal.returns-in_err-stretch-clause-marks
returns-in_err-stretch-clause-marks c = on_err c.from_residual-in_err-stretch.result c.note.ensures.marks

pub returns-in_err-make_room-clause-marks : goal.returns-in_err-make_room-clause-marks
returns-in_err-make_room-clause-marks c = on_err c.from_residual.result refl

pub returns-in_err-make_room-clause-unlisted : goal.returns-in_err-make_room-clause-unlisted
returns-in_err-make_room-clause-unlisted c = on_err c.from_residual.result refl

pub returns-in_err-stretch-clause-unlisted : goal.returns-in_err-stretch-clause-unlisted
returns-in_err-stretch-clause-unlisted c = on_err c.from_residual-in_err-stretch.result c.in_err-stretch.ensures.kept

pub returns-clause-secure : goal.returns-clause-secure
returns-clause-secure c = λ safe p own below topped.
    let e = c.make_room.ensures.same in
    let old = c.args.rows.now.items in
    let f : c.deref.result.now ≡ old = c.deref.ensures.value ∙ e in
    let w = c.args.opened.now in
    let v = c.in_ok-stretch.ensures in
    let row = c.args.row in
    let h = c.args.holders.now.items in
    let h2 = c.note.new.holders.items in
    let is : c.add_one.new.rows.items ≡ old ++ placed_row row (length h) (length h2) w.marks ∷ [] = c.add_one.ensures.more
    ∙ (λ t. c.make_room.ensures.same t ++ c.placed-row.ensures t ∷ [])
    ∙ (λ t. old ++ placed_row row (v.begins t) (v.ends t) (c.note.ensures.marks t) ∷ []) in
    subst (λ (xs : List Row). IsSafe xs h2) (sym is)
    (secure old row w.marks (top w.written) (top w.locked) c.args.shape.now.kind c.args.shape.now.at c.args.shape.now.size h h2
    (subst (λ (xs : List Row). ListsHolders (stands xs) w.marks.close (mark_of c.args.shape.now.kind w.marks)
    (λ x. top_of c.args.shape.now.kind (top w.written) (top w.locked) x) c.args.shape.now.at c.args.shape.now.size h h2) f v.listed)
    safe p below c.requires.mark topped own)

pub returns-clause-topped : goal.returns-clause-topped
returns-clause-topped c = λ topped.
    let w = c.args.opened.now in
    let n = length c.args.rows.now.items in
    let v = c.in_ok-stretch.ensures in
    let number : c.count_of-count.result ≡ n = c.count_of-count.ensures ∙ ap (λ (xs : List Row). length xs) c.make_room.ensures.same in
    topped_behind c.args.shape.now.kind (top w.written) (top c.note.new.opened.written) (top w.locked) (top c.note.new.opened.locked)
    c.args.shape.now.at c.args.shape.now.size n
    (subst (λ y. OpenBehind c.args.shape.now.kind (top w.written) (top c.note.new.opened.written) (top w.locked)
    (top c.note.new.opened.locked) c.args.shape.now.at c.args.shape.now.size y) number v.covers) topped

pub returns-in_err-make_room-clause-tops : goal.returns-in_err-make_room-clause-tops
returns-in_err-make_room-clause-tops c = on_err c.from_residual.result (λ n t. t)

pub returns-in_err-stretch-clause-tops : goal.returns-in_err-stretch-clause-tops
returns-in_err-stretch-clause-tops c = on_err c.from_residual-in_err-stretch.result (λ n t x f. (
  subst (λ y. y < n) (sym (c.in_err-stretch.ensures.stays.0 x)) (t x f).0,
  subst (λ y. y < n) (sym (c.in_err-stretch.ensures.stays.1 x)) (t x f).1,
))
