use Rattle.std.proofs.Common.{true, arith}
use Rattle.base_lists.specs.number_set.Members.{place}
use Rattle.client_tables.proofs.outstanding.Swept.{holds_swept, lower_place}
use Rattle.client_tables.proofs.outstanding.sweeping.sweep.Goals as goal

-- guesses: `place -= 1` in front of the call is c.loop-place.place - 1

pub loop-place-init : goal.loop-place-init
loop-place-init c =
    record {
      fits = c.requires.fits;
      sized = c.requires.sized;
      more = c.requires.more;
      least = (let e = c.count-place.ensures in omega arith);
      swept = λ i l m. absurd (let e = c.count-place.ensures in omega arith);
    }

pub sweep_one-requires : goal.sweep_one-requires
sweep_one-requires c =
    let v = c.loop-place.invariant in
    let l = v.least in
    let t = c.loop-place-test.true in
    record { fits = v.fits; sized = v.sized; within = omega arith; more = v.more }

pub loop-place-preserved : goal.loop-place-preserved
loop-place-preserved c =
    let v = c.loop-place.invariant in
    let o = c.sweep_one.ensures in
    record {
      fits = o.fits;
      sized = o.sized;
      more = o.more;
      least = o.least;
      swept = o.swept (λ i l m. v.swept i (lower_place c.loop-place.place i c.loop-place-test.true l) m);
    }

pub returns : goal.returns
returns c =
    let v = c.loop-place.invariant in
    let t = c.loop-place-test.false in
    holds_swept c.args.rows.now c.loop-place.out v.fits v.sized v.more (λ i m. v.swept i (omega arith) m)
