use Rattle.std.proofs.Common.{◌≡◌, ◌+◌, ◌<◌, ◌≤◌, List, length, refl, sym, ◌∙◌, subst, arith}
use Rattle.client_rows.specs.declared.operation_rows.row.Row.{Row}
use Rattle.client_rows.specs.operation_rows.Rows.{stands}
use Rattle.client_rows.specs.operation_rows.Moves.{StandsRows}
use Rattle.client_rows.specs.Shown.{fills_by, waits_by}
use Rattle.client_tables.specs.costs.Costs.{ShowsPaid}
use Rattle.client_tables.specs.cuts.Cutting.{end_all}
use Rattle.client_tables.specs.settling.Shown.{GoesSettled}
use Rattle.client_tables.proofs.settling.Going.{goes_both, goes_none}
use Rattle.client_tables.proofs.session_ends.Unattached.{goes_priced, stands_priced, unpaid, unpaid_begins, unpaid_ends, unpaid_one}
use Rattle.client_tables.proofs.session_ends.detaching.detach_from.Goals as goal

pub loop-at-init : goal.loop-at-init
loop-at-init c =
    let rows = c.args.rows.now in
    record {
      above = omega arith;
      settles = goes_none rows;
      stands = λ g. refl;
      counts = c.requires.counts;
      safe = λ holders s. s;
      shown = λ d holders s. unpaid_begins rows holders c.args.prices.now c.args.watchers.now d c.args.from c.args.from s;
    }

pub loop-at-preserved : goal.loop-at-preserved
loop-at-preserved c =
    let v = c.loop-at.invariant in
    let e = c.price_one.ensures in
    let rows = c.loop-at.rows in
    let new = c.price_one.new.rows in
    let n = c.loop-at.at in
    let h : n < length rows = c.loop-at-test.true in
    let a = v.above in
    let p = c.requires.above in
    let q : 0 < n = omega arith in
    record {
      above = omega arith;
      settles = goes_both c.args.rows.now rows new v.settles
          (subst (λ (xs : List Row). GoesSettled rows xs) (sym e.row) (goes_priced rows n h));
      stands = λ g. subst (λ (xs : List Row). stands xs g ≡ stands rows g) (sym e.row) (stands_priced rows n h g) ∙ v.stands g;
      counts = e.counts;
      safe = λ holders s. e.safe holders (v.safe holders s);
      shown = λ d holders s. (
          let o = v.shown d holders s in
          subst (λ (xs : List Row). ShowsPaid xs holders c.price_one.new.prices c.args.watchers.now (end_all d)
          (unpaid d c.args.from (n + 1)))
          (sym e.row)
          (unpaid_one rows holders c.loop-at.prices c.args.watchers.now d c.args.from n c.price_one.new.prices q h v.above o
          (subst (λ (xs : List Row). StandsRows (waits_by d.op) (fills_by d.op) xs holders c.price_one.new.prices c.args.watchers.now)
          e.row (e.stands (waits_by d.op) (fills_by d.op) holders o.stand)))
          );
    }

pub returns : goal.returns
returns c =
    let v = c.loop-at.invariant in
    let n = c.loop-at.at in
    let rows = c.loop-at.rows in
    let l : length rows ≤ n = (let t = c.loop-at-test.false in omega arith) in
    record {
      settles = v.settles;
      stands = v.stands;
      counts = v.counts;
      safe = v.safe;
      shown = λ d holders s. unpaid_ends rows holders c.loop-at.prices c.args.watchers.now d c.args.from n
          (λ g m. v.stands g ∙ c.requires.below g m) l (v.shown d holders s);
    }
