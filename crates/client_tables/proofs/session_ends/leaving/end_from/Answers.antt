use Rattle.std.proofs.Common.{◌-◌, ◌<◌, ◌≤◌, length, refl, sym, ap, ◌∙◌, arith}
use Rattle.spec_exchange.specs.Client.{end_session}
use Rattle.client_tables.proofs.settling.Going.{goes_both}
use Rattle.client_tables.proofs.settling.Settled.{values_moved}
use Rattle.client_tables.specs.session_ends.Ending.{ended_below}
use Rattle.client_tables.proofs.session_ends.Ended.{end_begun, end_whole, last_row, owned_moved, rows_alike, values_alike}
use Rattle.client_tables.proofs.session_ends.leaving.end_from.Goals as goal

pub loop-at-init : goal.loop-at-init
loop-at-init c =
    let e = c.detach_from.ensures in
    let rows = c.detach_from.new.rows in
    let n = c.args.from in
    record {
      above = omega arith;
      counted = refl;
      settles = e.settles;
      counts = e.counts;
      safe = e.safe;
      shown = λ d holders k m safe v s. (
          let r = e.shown d holders s in
          let b = end_begun d n (λ g p l q. s.places.unsettled g p l ∙ c.requires.below g q) in (
            rows_alike rows holders c.detach_from.new.prices c.args.watchers.now d d.outcome (ended_below d n).outcome b r,
            values_alike rows c.args.ops.now c.args.settled.now d.taken d.op d.outcome (ended_below d n).outcome b
                (values_moved c.args.rows.now rows c.args.ops.now c.args.settled.now d.taken d.op d.outcome e.stands v),
          )
          );
    }

pub leave_one-requires : goal.leave_one-requires
leave_one-requires c =
    let v = c.loop-at.invariant in
    let a = v.above in
    let p = c.requires.above in
    let e = ap (λ n. n - 1) (sym v.settles.count) in
    record {
      above = omega arith;
      within = c.loop-at-test.true;
      owned = owned_moved c.args.rows.now c.loop-at.rows v.settles c.requires.owned;
      counted = v.counted ∙ c.requires.counted ∙ e;
      ops_counted = c.requires.ops_counted ∙ e;
      counts = v.counts;
    }

pub loop-at-preserved : goal.loop-at-preserved
loop-at-preserved c =
    let v = c.loop-at.invariant in
    let e = c.leave_one.ensures in
    let a = v.above in
    record {
      above = omega arith;
      counted = e.counted ∙ v.counted;
      settles = goes_both c.args.rows.now c.loop-at.rows c.leave_one.new.rows v.settles e.settles;
      counts = e.counts;
      safe = λ holders s. e.safe holders (v.safe holders s);
      shown = λ d holders k n safe values s. (
          let w = v.shown d holders k n safe values s in e.shown d holders k n (v.safe holders safe) w.1 w.0
          );
    }

pub returns : goal.returns
returns c =
    let v = c.loop-at.invariant in
    let n = c.loop-at.at in
    let rows = c.loop-at.rows in
    let a = v.above in
    let p = c.requires.above in
    let l : length rows ≤ n = (let t = c.loop-at-test.false in omega arith) in
    let q : 0 < n = omega arith in
    record {
      counted = v.counted;
      settles = v.settles;
      counts = v.counts;
      safe = v.safe;
      shown = λ d holders k m safe values s. (
          let w = v.shown d holders k m safe values s in
          let e = end_whole d n (last_row d.taken (length rows) n w.0.places.has_row l q) in (
            rows_alike rows holders c.loop-at.prices c.loop-at.watchers d (ended_below d n).outcome (end_session d).outcome e w.0,
            values_alike rows c.args.ops.now c.loop-at.settled d.taken d.op (ended_below d n).outcome (end_session d).outcome e w.1,
          )
          );
    }
