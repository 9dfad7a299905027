use Rattle.std.proofs.Common.{◌≡◌, ℕ, ◌+◌, ◌<◌, ◌^◌, List, length, sym, subst, arith}
use Rattle.client_rows.specs.declared.operation_rows.row.Row.{Row}
use Rattle.client_steps.specs.taking.Taken.{KeepsOrBegins}
use Rattle.client_steps.proofs.submits_on_opens.Stood.{on_ok}
use Rattle.client_steps.specs.whole_client.Shown.{FitsAll}
use Rattle.client_steps.proofs.whole_client.Around.{fits_around, same_places, shows_around}
use Rattle.client_steps.proofs.whole_client.FirstRow.{fits_begun, shows_begun}
use Rattle.client_steps.proofs.whole_client.client.Client.make_way.Goals as goal

pub start_rows-requires : goal.start_rows-requires
start_rows-requires c = record { fits = c.requires.fits.whole.table; later = c.requires.fits.later }

pub returns-in_err-start_rows-clause-fits : goal.returns-in_err-start_rows-clause-fits
returns-in_err-start_rows-clause-fits c =
    let x = c.args.self.now in
    let e = c.start_rows.ensures in
    fits_begun x.table c.start_rows.new.table x.attached.items x.opened.items x.marks.items e.rows x.later.items
    c.start_rows.new.later.items e.fits e.later c.requires.fits

pub returns-in_err-start_rows-clause-rows : goal.returns-in_err-start_rows-clause-rows
returns-in_err-start_rows-clause-rows c = c.start_rows.ensures.rows

pub returns-in_err-start_rows-clause-shown : goal.returns-in_err-start_rows-clause-shown
returns-in_err-start_rows-clause-shown c = λ d s.
    let x = c.args.self.now in
    let e = c.start_rows.ensures in
    shows_begun x.table c.start_rows.new.table x.attached.items x.opened.items x.marks.items e.rows d (e.shown d s.table) s

pub returns-then-not-has_number : goal.returns-then-not-has_number
returns-then-not-has_number c =
    let x = c.args.self.now in
    let e = c.start_rows.ensures in
    let u = c.start_rows.new.table in
    record {
      fits = fits_begun x.table u x.attached.items x.opened.items x.marks.items e.rows x.later.items c.start_rows.new.later.items e.fits
          e.later c.requires.fits;
      some = tt;
      few = tt;
      rows = e.rows;
      room = tt;
      later = tt;
      shown = λ d s. shows_begun x.table u x.attached.items x.opened.items x.marks.items e.rows d (e.shown d s.table) s;
    }

pub returns-in_err-reserve-clause-fits : goal.returns-in_err-reserve-clause-fits
returns-in_err-reserve-clause-fits c =
    let x = c.args.self.now in
    let e = c.start_rows.ensures in
    let u = c.start_rows.new.table in
    subst (λ (ys : List ℕ). FitsAll u x.attached.items x.opened.items x.marks.items ys) (sym c.reserve.ensures.items)
    (fits_begun x.table u x.attached.items x.opened.items x.marks.items e.rows x.later.items c.start_rows.new.later.items e.fits e.later
    c.requires.fits)

pub returns-in_err-reserve-clause-rows : goal.returns-in_err-reserve-clause-rows
returns-in_err-reserve-clause-rows c = c.start_rows.ensures.rows

pub returns-in_err-reserve-clause-shown : goal.returns-in_err-reserve-clause-shown
returns-in_err-reserve-clause-shown c = λ d s.
    let x = c.args.self.now in
    let e = c.start_rows.ensures in
    shows_begun x.table c.start_rows.new.table x.attached.items x.opened.items x.marks.items e.rows d (e.shown d s.table) s

pub make_room-requires : goal.make_room-requires
make_room-requires c = record { fits = c.start_rows.ensures.fits; few = c.has_number.ensures c.if-not-has_number.false }

pub returns : goal.returns
returns c =
    let x = c.args.self.now in
    let e = c.start_rows.ensures in
    let u = c.start_rows.new.table in
    let rows = u.rows.items in
    let v = c.make_room.new.table in
    let w = c.make_room.ensures in
    let up = c.reserve.new.self.items in
    let is : v.rows.items ≡ rows = (λ i. (w.rows i).items) in
    let m = same_places rows v.rows.items is in
    let was = subst (λ (ys : List ℕ). FitsAll u x.attached.items x.opened.items x.marks.items ys) (sym c.reserve.ensures.items)
    (fits_begun x.table u x.attached.items x.opened.items x.marks.items e.rows x.later.items c.start_rows.new.later.items e.fits e.later
    c.requires.fits) in
    record {
      fits = fits_around u v x.attached.items x.opened.items x.marks.items m up w.fits was;
      some = on_ok c.make_room.result (subst (λ (xs : List Row). 0 < length xs) (sym is) c.in_ok-start_rows.ensures.some);
      few = on_ok c.make_room.result (subst (λ (xs : List Row). length xs + 1 < 2 ^ 32) (sym is)
          (c.has_number.ensures c.if-not-has_number.false));
      rows = subst (λ (xs : List Row). KeepsOrBegins x.table.rows.items xs) (sym is) e.rows;
      room = w.room;
      later = on_ok c.make_room.result (let h = c.in_ok-reserve.ensures.ok in omega arith);
      shown = λ d s. (
          let begun = shows_begun x.table u x.attached.items x.opened.items x.marks.items e.rows d (e.shown d s.table) s in
          shows_around u v x.attached.items x.opened.items x.marks.items m d (w.shown d begun.table) begun.attached
          begun.opened begun.marked
          );
    }
