use Rattle.std.proofs.Common.{◌≤◌, length, arith}
use Rattle.client_tables.proofs.settling.Unsettled.{left_is, settled_more}
use Rattle.client_tables.proofs.settling.left.first_left.Goals as goal

pub loop-at-init : goal.loop-at-init
loop-at-init c = record { above = omega arith; inside = λ w. w; settled = c.requires.settled }

pub loop-at-preserved : goal.loop-at-preserved
loop-at-preserved c =
    let v = c.loop-at.invariant in
    let a = v.above in
    let t = c.loop-at-test.true in
    record {
      above = omega arith;
      inside = λ w. omega arith;
      settled = settled_more c.args.rows.now c.loop-at.at v.settled c.if-rows-at.false;
    }

pub returns-then-rows-at : goal.returns-then-rows-at
returns-then-rows-at c =
    let v = c.loop-at.invariant in
    let a = v.above in
    let p = c.requires.above in
    record {
      above = v.above;
      inside = v.inside;
      settled = v.settled;
      stands = λ l. c.if-rows-at.true;
      left = λ d s. left_is c.args.rows.now d c.loop-at.at (omega arith) s v.settled (λ l. c.if-rows-at.true);
    }

pub returns : goal.returns
returns c =
    let v = c.loop-at.invariant in
    let a = v.above in
    let p = c.requires.above in
    let l : length c.args.rows.now ≤ c.loop-at.at = (let t = c.loop-at-test.false in omega arith) in
    record {
      above = v.above;
      inside = v.inside;
      settled = v.settled;
      stands = λ w. absurd (omega arith);
      left = λ d s. left_is c.args.rows.now d c.loop-at.at (omega arith) s v.settled (λ w. absurd (omega arith));
    }
