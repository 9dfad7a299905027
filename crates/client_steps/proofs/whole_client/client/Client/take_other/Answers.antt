use Rattle.std.proofs.Common.{◌≡◌, ◌≤◌, true, List, length, take, drop, ◌++◌, sym, ap, ◌∙◌, subst, arith}
use Rattle.std.proofs.lemmas.Grind.{common_steps}
use Rattle.spec_exchange.specs.Client.{take_op}
use Rattle.client_values.specs.operations.Meaning.{op_of}
use Rattle.client_rows.specs.operation_rows.Rows.{owner}
use Rattle.client_rows.specs.open_marks.Marks.{IsHighest}
use Rattle.client_tables.specs.declared.choice.finding.Attached.{Attached}
use Rattle.client_tables.specs.declared.opens.opening.Open.{Open}
use Rattle.client_tables.proofs.whole_table.Losing.{whole}
use Rattle.client_tables.proofs.whole_table.Ready.{on_err}
use Rattle.client_steps.specs.submitting.Whole.{FitsWhole, ShowsWhole}
use Rattle.client_steps.specs.whole_client.Shown.{FitsAll}
use Rattle.client_steps.proofs.whole_client.Higher.{ascends_one, highest_within, same_ascends}
use Rattle.client_steps.proofs.whole_client.client.Client.take_other.Goals as goal

pub last_of-last-requires : goal.last_of-last-requires
last_of-last-requires c = record { fits = c.requires.fits }

pub take_more-requires : goal.take_more-requires
take_more-requires c =
    let x = c.args.self.now in
    let t = x.table in
    let opened = x.opened.items in
    record {
      all = subst (λ (xs : List Attached). FitsWhole t xs opened c.deref_mut-2.result.now) (sym c.deref_mut.ensures.value)
          (subst (λ (ys : List Open). FitsWhole t x.attached.items opened ys) (sym c.deref_mut-2.ensures.value) c.requires.fits.whole);
      few = c.requires.few;
      room = c.requires.room;
      above = c.requires.above;
      within = c.requires.within;
      limits = c.requires.limits;
      made = c.requires.made;
      other = c.requires.other;
      names = c.requires.names;
    }

pub returns-in_err-take_more-clause-fits : goal.returns-in_err-take_more-clause-fits
returns-in_err-take_more-clause-fits c =
    let x = c.args.self.now in
    let opened = x.opened.items in
    let later = x.later.items in
    let u = c.take_more.new.table in
    let e = c.in_err-take_more.ensures in
    let att = c.take_more.new.attached in
    let marks = c.take_more.new.marks in
    let n : length x.attached.items ≡ x.attached.len = grind (arith, common_steps) in
    let k : length x.marks.items ≡ x.marks.len = grind (arith, common_steps) in
    let many : length att ≡ length x.attached.items = c.take_more.auto.attached
    ∙ ap (λ (xs : List Attached). length xs) c.deref_mut.ensures.value in
    let marked : length marks ≡ length x.marks.items = c.take_more.auto.marks
    ∙ ap (λ (ys : List Open). length ys) c.deref_mut-2.ensures.value in
    let v = whole x.attached.len x.attached.items att n many in
    let w = whole x.marks.len x.marks.items marks k marked in
    let both = take x.marks.len (marks ++ drop (length marks) x.marks.items) in
    subst (λ (xs : List Attached). FitsAll u xs opened both later) (sym v)
    (subst (λ (ys : List Open). FitsAll u att opened ys later) (sym w)
    (record { whole = e.still; later = same_ascends x.table.rows.items u.rows.items later e.same c.requires.fits.later }))

pub returns-in_err-take_more-clause-kept : goal.returns-in_err-take_more-clause-kept
returns-in_err-take_more-clause-kept c =
    let x = c.args.self.now in
    let opened = x.opened.items in
    let u = c.take_more.new.table in
    let e = c.in_err-take_more.ensures in
    let att = c.take_more.new.attached in
    let marks = c.take_more.new.marks in
    let a = c.deref_mut.ensures.value in
    let o = c.deref_mut-2.ensures.value in
    let n : length x.attached.items ≡ x.attached.len = grind (arith, common_steps) in
    let k : length x.marks.items ≡ x.marks.len = grind (arith, common_steps) in
    let many : length att ≡ length x.attached.items = c.take_more.auto.attached ∙ ap (λ (xs : List Attached). length xs) a in
    let marked : length marks ≡ length x.marks.items = c.take_more.auto.marks ∙ ap (λ (ys : List Open). length ys) o in
    let v = whole x.attached.len x.attached.items att n many in
    let w = whole x.marks.len x.marks.items marks k marked in
    let both = take x.marks.len (marks ++ drop (length marks) x.marks.items) in
    on_err c.from_residual.result (λ d s.
    subst (λ (xs : List Attached). ShowsWhole u xs opened both d) (sym v)
    (subst (λ (ys : List Open). ShowsWhole u att opened ys d) (sym w)
    (e.kept d
    (subst (λ (xs : List Attached). ShowsWhole x.table xs opened c.deref_mut-2.result.now d) (sym a)
    (subst (λ (ys : List Open). ShowsWhole x.table x.attached.items opened ys d) (sym o) s)))))

pub add_later-requires : goal.add_later-requires
add_later-requires c =
    let x = c.args.self.now in
    let rows = x.table.rows.items in
    let counted = c.requires.fits.later.counted in
    let f = c.requires.few in
    record {
      room = c.requires.later;
      few = omega arith;
      within = subst (λ m. c.last_of-last.result ≤ m) (sym counted)
          (highest_within (owner rows) (λ h. true) (owner rows c.args.create) (length rows) c.last_of-last.result
          (c.last_of-last.ensures c.requires.above c.requires.within));
    }

pub returns : goal.returns
returns c =
    let x = c.args.self.now in
    let f = c.requires.fits in
    let rows = x.table.rows.items in
    let opened = x.opened.items in
    let create = c.args.create in
    let u = c.take_more.new.table in
    let e = c.in_ok-take_more.ensures in
    let att = c.take_more.new.attached in
    let marks = c.take_more.new.marks in
    let later = c.add_later.new.later.items in
    let a = c.deref_mut.ensures.value in
    let o = c.deref_mut-2.ensures.value in
    let n : length x.attached.items ≡ x.attached.len = grind (arith, common_steps) in
    let k : length x.marks.items ≡ x.marks.len = grind (arith, common_steps) in
    let many : length att ≡ length x.attached.items = c.take_more.auto.attached ∙ ap (λ (xs : List Attached). length xs) a in
    let marked : length marks ≡ length x.marks.items = c.take_more.auto.marks ∙ ap (λ (ys : List Open). length ys) o in
    let v = whole x.attached.len x.attached.items att n many in
    let w = whole x.marks.len x.marks.items marks k marked in
    let both = take x.marks.len (marks ++ drop (length marks) x.marks.items) in
    let home = f.whole.homes create c.requires.above c.requires.within c.requires.made in
    let op = op_of c.args.kind in
    record {
      fits = subst (λ (xs : List Attached). FitsAll u xs opened both later) (sym v)
          (subst (λ (ys : List Open). FitsAll u att opened ys later) (sym w)
          (record {
            whole = e.fits;
            later = ascends_one rows u.rows.items create later e.row
                (λ r is. c.add_later.ensures.ascends rows r f.later
                (subst (λ y. IsHighest (owner rows) (λ h. true) y (length rows) c.last_of-last.result) (home ∙ sym is)
                (c.last_of-last.ensures c.requires.above c.requires.within)));
          }));
      shown = λ d s kept.
          subst (λ (xs : List Attached). ShowsWhole u xs opened both (take_op d (length rows) op)) (sym v)
          (subst (λ (ys : List Open). ShowsWhole u att opened ys (take_op d (length rows) op)) (sym w)
          (e.shown d
          (subst (λ (xs : List Attached). ShowsWhole x.table xs opened c.deref_mut-2.result.now d) (sym a)
          (subst (λ (ys : List Open). ShowsWhole x.table x.attached.items opened ys d) (sym o) s)) kept));
      kept = tt;
    }
