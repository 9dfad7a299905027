use Rattle.std.proofs.Common.{◌≡◌, ℕ, ◌+◌, ◌<◌, ◌≤◌, false, List, [], ◌∷◌, ◌++◌, length, refl, ap, sym, ◌∙◌, subst, arith}
use Rattle.std.proofs.lemmas.Grind.{common_steps}
use Rattle.std.proofs.lemmas.List.{length_push}
use Rattle.spec_exchange.specs.Table.{put}
use Rattle.spec_exchange.specs.Client.{take_op}
use Rattle.client_values.specs.operations.Meaning.{op_of}
use Rattle.client_values.specs.operations.Waiting.{at_of, size_of}
use Rattle.client_values.specs.declared.operations.shapes.Kind.TheVariants as kinds
use Rattle.client_rows.specs.declared.operation_rows.row.Row.{Row}
use Rattle.client_rows.specs.operation_rows.Rows.{kind, owner}
use Rattle.client_tables.specs.declared.choice.finding.Attached.{Attached}
use Rattle.client_tables.specs.declared.opens.opening.Open.{Open}
use Rattle.client_tables.proofs.whole_table.Ready.{on_err}
use Rattle.client_tables.specs.declared.attached_opens.opened.Opened.{Opened}
use Rattle.client_tables.specs.attached_opens.Known.{ShowsOpened}
use Rattle.client_tables.specs.attached_opens.Opens.{FitsOpens, ShowsAttached}
use Rattle.client_steps.specs.submits_on_opens.Keeping.{SubmitKeeps}
use Rattle.client_steps.specs.submitting.Marked.{FitsMarks, ShowsMarks}
use Rattle.client_steps.proofs.creating.Alone.{create_no_lock}
use Rattle.client_steps.proofs.creating.Owning.{fits_one, homes_one, keeps_one, known_one, marks_one, rows_fit}
use Rattle.client_steps.proofs.creating.Owning.{rows_show, shown_one, whole_fits, whole_shown}
use Rattle.client_steps.proofs.creating.creating.take_first.Goals as goal

below_all : (h n o : ℕ) → o ≤ h → h < n → o ≡ n → ⊥
below_all h n o l k e = omega arith

pub returns-then-not-has_place : goal.returns-then-not-has_place
returns-then-not-has_place c = record { row = tt; same = refl; fits = tt; shown = tt; still = c.requires.all; kept = λ d s. s }

pub returns-in_err-make_lists-clause-same : goal.returns-in_err-make_lists-clause-same
returns-in_err-make_lists-clause-same c = on_err c.from_residual.result refl

pub returns-in_err-take_alone-clause-same : goal.returns-in_err-take_alone-clause-same
returns-in_err-take_alone-clause-same c = on_err c.from_residual-in_err-take_alone.result c.in_err-take_alone.ensures.same

pub returns-in_err-make_lists-clause-still : goal.returns-in_err-make_lists-clause-still
returns-in_err-make_lists-clause-still c =
    let m = c.make_lists.ensures in
    on_err c.from_residual.result
    (whole_fits c.args.table.now c.args.attached.now.items c.make_lists.new.attached.items c.args.opened.now.items
    c.make_lists.new.opened.items c.args.marks.now.items c.make_lists.new.marks.items m.attached m.opened m.marks c.requires.all)

pub returns-in_err-make_lists-clause-kept : goal.returns-in_err-make_lists-clause-kept
returns-in_err-make_lists-clause-kept c =
    let m = c.make_lists.ensures in
    on_err c.from_residual.result
    (whole_shown c.args.table.now c.args.attached.now.items c.make_lists.new.attached.items c.args.opened.now.items
    c.make_lists.new.opened.items c.args.marks.now.items c.make_lists.new.marks.items m.attached m.opened m.marks)

pub overflow_cast-open : goal.overflow_cast-open
overflow_cast-open c =
    let l = c.has_place.ensures c.if-not-has_place.false in
    let e = ap (λ (xs : List Attached). length xs) c.make_lists.ensures.attached in
    let k : c.len-open.result ≡ length c.make_lists.new.attached.items = grind (arith, common_steps) in
    omega arith

pub take_alone-requires : goal.take_alone-requires
take_alone-requires c =
    record {
      fits = c.requires.all.table;
      some = c.requires.some;
      few = c.requires.few;
      room = c.requires.room;
      limits = c.requires.limits;
      below = c.new-mark.ensures.below (length c.args.table.now.rows.items) c.requires.some;
      topped = c.new-mark.ensures.topped (length c.args.table.now.rows.items) c.requires.some;
    }

pub returns-in_err-take_alone-clause-still : goal.returns-in_err-take_alone-clause-still
returns-in_err-take_alone-clause-still c =
    let m = c.make_lists.ensures in
    let e = c.in_err-take_alone.ensures in
    on_err c.from_residual-in_err-take_alone.result
    (rows_fit c.args.table.now c.take_alone.new.table c.make_lists.new.attached.items c.make_lists.new.opened.items
    c.make_lists.new.marks.items e.same
    (whole_fits c.args.table.now c.args.attached.now.items c.make_lists.new.attached.items c.args.opened.now.items
    c.make_lists.new.opened.items c.args.marks.now.items c.make_lists.new.marks.items m.attached m.opened m.marks c.requires.all) e.still)

pub returns-in_err-take_alone-clause-kept : goal.returns-in_err-take_alone-clause-kept
returns-in_err-take_alone-clause-kept c =
    let m = c.make_lists.ensures in
    let e = c.in_err-take_alone.ensures in
    on_err c.from_residual-in_err-take_alone.result
    (λ d s. rows_show c.args.table.now c.take_alone.new.table c.make_lists.new.attached.items c.make_lists.new.opened.items
    c.make_lists.new.marks.items e.same d
    (whole_shown c.args.table.now c.args.attached.now.items c.make_lists.new.attached.items c.args.opened.now.items
    c.make_lists.new.opened.items c.args.marks.now.items c.make_lists.new.marks.items m.attached m.opened m.marks d s) (e.kept d s.table))

pub push_reserved-requires : goal.push_reserved-requires
push_reserved-requires c = c.in_ok-make_lists.ensures.room.0

pub push_reserved-requires-2 : goal.push_reserved-requires-2
push_reserved-requires-2 c = c.in_ok-make_lists.ensures.room.1

pub push_reserved-requires-3 : goal.push_reserved-requires-3
push_reserved-requires-3 c = c.in_ok-make_lists.ensures.room.2

pub returns : goal.returns
returns c =
    let t = c.args.table.now in
    let rows = t.rows.items in
    let attached = c.args.attached.now.items in
    let opened = c.args.opened.now.items in
    let marks = c.args.marks.now.items in
    let op = op_of c.args.kind in
    let all = c.requires.all in
    let m = c.make_lists.ensures in
    let u = c.in_ok-take_alone.ensures in
    let new = c.take_alone.new.table in
    let mark = c.take_alone.new.mark in
    let was = c.new-mark.result in
    let own : Attached = record { session = 0; locks = 0; slots = c.new.result } in
    let known : Opened = record { persist = c.persists-persist.result; shut = false; file = 0 } in
    let attached_is : c.push_reserved.new.self.items ≡ attached ++ own ∷ [] = c.push_reserved.ensures.items
    ∙ ap (λ (xs : List Attached). xs ++ own ∷ []) m.attached in
    let opened_is : c.push_reserved-2.new.self.items ≡ opened ++ known ∷ [] = c.push_reserved-2.ensures.items
    ∙ ap (λ (xs : List Opened). xs ++ known ∷ []) m.opened in
    let marks_is : c.push_reserved-3.new.self.items ≡ marks ++ mark ∷ [] = c.push_reserved-3.ensures.items
    ∙ ap (λ (xs : List Open). xs ++ mark ∷ []) m.marks in
    let k : c.len-open.result ≡ length c.make_lists.new.attached.items = grind (arith, common_steps) in
    let counted : c.len-open.result ≡ length attached = k ∙ ap (λ (xs : List Attached). length xs) m.attached in
    let owned : (g : ℕ) → 0 < g → g < length rows → owner rows g < length rows = (λ g b l. (all.table.owned g b l).1) in
    let r = u.row.0 in
    let is = u.row.1 in
    let c_is = u.row.2 in
    let o_is : r.«open» ≡ length attached = u.row.3 ∙ counted in
    let many : length (opened ++ known ∷ []) ≡ length (attached ++ own ∷ []) = length_push opened known ∙ ap (λ n. n + 1) all.known
    ∙ sym (length_push attached own) in
    let marked : length (marks ++ mark ∷ []) ≡ length (attached ++ own ∷ []) = length_push marks mark ∙ ap (λ n. n + 1) all.counted
    ∙ sym (length_push attached own) in
    let plain : r.kind ≡ kinds.Lock → ⊥ = (λ e. create_no_lock op c.requires.made (sym u.row.4 ∙ e)) in
    record {
      row = (r, is, c_is);
      same = tt;
      fits = whole_fits new (attached ++ own ∷ []) c.push_reserved.new.self.items (opened ++ known ∷ []) c.push_reserved-2.new.self.items
          (marks ++ mark ∷ []) c.push_reserved-3.new.self.items attached_is opened_is marks_is
          (record {
            table = u.fits;
            opens = subst (λ (xs : List Row). FitsOpens xs (attached ++ own ∷ [])) (sym is)
                (fits_one rows r attached own c_is o_is plain c.new.ensures.items refl refl owned all.opens);
            marked = subst (λ (xs : List Row). FitsMarks xs (marks ++ mark ∷ [])) (sym is)
                (marks_one rows r attached own c_is o_is plain c.new.ensures.items refl refl owned all.opens marks mark
                all.counted all.marked
                (u.below, u.topped) u.last);
            known = many;
            counted = marked;
            homes = subst (λ (xs : List Row). (g : ℕ) → 0 < g → g < length xs → kind xs g ≡ kinds.Create → owner xs g ≡ g) (sym is)
                (homes_one rows r c_is all.homes);
          });
      shown = λ d s kept. (
          let empty : SubmitKeeps rows (length rows) d.op (length rows) was = c.new-mark.ensures.shown rows (λ y. at_of (d.op y))
          (λ y. size_of (d.op y)) (length rows) (length rows)
          (λ h l e. below_all h (length rows) (owner rows h) (all.table.safe.owned h l) l e) in
          let w = u.joined d s.table kept c.requires.made empty in
          whole_shown new (attached ++ own ∷ []) c.push_reserved.new.self.items (opened ++ known ∷ []) c.push_reserved-2.new.self.items
          (marks ++ mark ∷ []) c.push_reserved-3.new.self.items attached_is opened_is marks_is (take_op d (length rows) op)
          (record {
            table = w.0;
            attached = subst (λ (xs : List Row). ShowsAttached xs (attached ++ own ∷ []) d) (sym is)
                (shown_one rows r attached own c_is o_is plain c.new.ensures.items refl refl owned all.opens d s.attached);
            opened = subst (λ (xs : List Row). ShowsOpened xs (opened ++ known ∷ []) (take_op d (length rows) op)) (sym is)
                (known_one rows r attached own c_is o_is plain c.new.ensures.items refl refl owned all.opens opened known d op all.known
                (sym c.persists-persist.ensures) refl refl s.opened);
            marked = subst (λ (xs : List Row). ShowsMarks xs (marks ++ mark ∷ []) (put d.op (length rows) op)) (sym is)
                (keeps_one rows r attached own c_is o_is plain c.new.ensures.items refl refl owned all.opens marks mark
                all.counted all.marked d op
                (subst (λ (xs : List Row). SubmitKeeps xs (length rows + 1) (put d.op (length rows) op) (length rows) mark) is w.1)
                (λ y z ne q. subst (λ (xs : List Row). SubmitKeeps xs (length rows + 1) (put d.op (length rows) op) y z) is
                (u.others d y z ne q)) s.marked);
          })
          );
      still = tt;
      kept = tt;
    }
