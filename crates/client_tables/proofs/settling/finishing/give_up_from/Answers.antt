use Rattle.std.proofs.Common.{◌-◌, ◌<◌, ◌≤◌, length, refl, sym, ap, ◌∙◌, arith}
use Rattle.client_values.specs.outcomes.Meaning.{why_of}
use Rattle.client_tables.proofs.settling.GivenUp.{rows_begun, rows_finished, values_begun, values_finished}
use Rattle.client_tables.proofs.settling.Going.{goes_both, goes_none}
use Rattle.client_tables.proofs.settling.finishing.give_up_from.Goals as goal

pub loop-at-init : goal.loop-at-init
loop-at-init c =
    let w = why_of c.args.why in
    record {
      above = omega arith;
      counted = refl;
      settles = goes_none c.args.rows.now;
      counts = c.requires.counts;
      safe = λ holders s. s;
      below = c.requires.below;
      shown = λ d holders safe s.
          rows_begun c.args.rows.now holders c.args.prices.now c.args.watchers.now d w c.args.from c.requires.below s;
      values = λ d ops s. values_begun c.args.rows.now ops c.args.settled.now d w c.args.from c.requires.below s;
    }

pub give_up-requires : goal.give_up-requires
give_up-requires c =
    let v = c.loop-at.invariant in
    let a = v.above in
    let p = c.requires.above in
    record {
      above = omega arith;
      within = c.loop-at-test.true;
      counted = v.counted ∙ c.requires.counted ∙ ap (λ n. n - 1) (sym v.settles.count);
      counts = v.counts;
      below = v.below;
    }

pub loop-at-preserved : goal.loop-at-preserved
loop-at-preserved c =
    let v = c.loop-at.invariant in
    let e = c.give_up.ensures in
    let w = why_of c.args.why in
    let n = c.loop-at.at in
    let a = v.above in
    record {
      above = omega arith;
      counted = e.counted ∙ v.counted;
      settles = goes_both c.args.rows.now c.loop-at.rows c.give_up.new.rows v.settles e.settles;
      counts = e.counts;
      safe = λ holders s. e.safe holders (v.safe holders s);
      below = e.below;
      shown = λ d holders safe s. e.shown d holders (v.safe holders safe) (v.shown d holders safe s);
      values = λ d ops s. e.values d ops (v.values d ops s);
    }

pub returns : goal.returns
returns c =
    let v = c.loop-at.invariant in
    let w = why_of c.args.why in
    let n = c.loop-at.at in
    let a = v.above in
    let p = c.requires.above in
    let l : length c.loop-at.rows ≤ n = (let t = c.loop-at-test.false in omega arith) in
    let q : 0 < n = omega arith in
    record {
      counted = v.counted;
      settles = v.settles;
      counts = v.counts;
      safe = v.safe;
      all = λ g m. v.below g (omega arith);
      shown = λ d holders safe s.
          rows_finished c.loop-at.rows holders c.loop-at.prices c.loop-at.watchers d w n l q (v.shown d holders safe s);
      values = λ d ops s.
          values_finished c.loop-at.rows ops c.loop-at.settled d w (length c.loop-at.rows) n
          (v.counted ∙ c.requires.counted ∙ ap (λ m. m - 1) (sym v.settles.count)) l q (v.values d ops s);
    }
