use Rattle.std.proofs.Common.{true, length, sym, subst, arith}
use Rattle.client_rows.specs.operation_rows.Rows.{owner}
use Rattle.client_rows.specs.open_marks.Marks.{IsHighest}
use Rattle.client_tables.proofs.whole_table.Ready.{on_err}
use Rattle.client_steps.proofs.whole_client.Higher.{ascends_one, none_highest, same_ascends}
use Rattle.client_steps.proofs.whole_client.client.Client.take_create.Goals as goal

pub take_first-requires : goal.take_first-requires
take_first-requires c =
    record {
      all = c.requires.fits.whole;
      some = c.requires.some;
      few = c.requires.few;
      room = c.requires.room;
      limits = c.requires.limits;
      made = c.requires.made;
    }

pub returns-in_err-take_first-clause-fits : goal.returns-in_err-take_first-clause-fits
returns-in_err-take_first-clause-fits c =
    let x = c.args.self.now in
    let e = c.in_err-take_first.ensures in
    record {
      whole = e.still;
      later = same_ascends x.table.rows.items c.take_first.new.table.rows.items x.later.items e.same c.requires.fits.later;
    }

pub returns-in_err-take_first-clause-kept : goal.returns-in_err-take_first-clause-kept
returns-in_err-take_first-clause-kept c = on_err c.from_residual.result (λ d s. c.in_err-take_first.ensures.kept d s)

pub add_later-requires : goal.add_later-requires
add_later-requires c =
    let k = c.requires.fits.later.counted in
    let f = c.requires.few in
    record { room = c.requires.later; few = omega arith; within = omega arith }

pub returns : goal.returns
returns c =
    let x = c.args.self.now in
    let f = c.requires.fits in
    let rows = x.table.rows.items in
    let e = c.in_ok-take_first.ensures in
    record {
      fits = record {
        whole = e.fits;
        later = ascends_one rows c.take_first.new.table.rows.items (length rows) c.add_later.new.later.items e.row
            (λ r is. c.add_later.ensures.ascends rows r f.later
            (subst (λ y. IsHighest (owner rows) (λ h. true) y (length rows) 0) (sym is) (none_highest rows f.whole.table.owned)));
      };
      shown = λ d s kept. e.shown d s kept;
      kept = tt;
    }
