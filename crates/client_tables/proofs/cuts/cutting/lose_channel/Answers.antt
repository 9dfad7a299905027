use Rattle.std.proofs.Common.{◌<◌, ◌≤◌, List, ℕ, length, take, subst, refl, arith, ◌∙◌}
use Rattle.std.proofs.lemmas.List.{take_all}
use Rattle.client_rows.specs.Shown.{ShowsRows}
use Rattle.client_tables.specs.cuts.Cutting.{cut_of}
use Rattle.client_tables.proofs.cuts.Columns.{cut_next, cut_whole}
use Rattle.client_tables.proofs.cuts.Losing.{loses_both, loses_none}
use Rattle.client_tables.proofs.cuts.cutting.lose_channel.Goals as goal

pub loop-number-init : goal.loop-number-init
loop-number-init c = record {
  count = refl;
  loses = loses_none c.args.rows.now;
  counts = c.requires.counts;
  safe = λ holders s. s;
  shown = λ d holders s. s;
}

pub lose_on-requires-clause-within : goal.lose_on-requires-clause-within
lose_on-requires-clause-within c =
    let l : c.loop-number.number-index < length c.args.numbers.now = (let t = c.loop-number-test.true in omega arith) in
    omega (arith, c.requires.within c.loop-number.number-index l, c.loop-number.invariant.count)

pub loop-number-preserved : goal.loop-number-preserved
loop-number-preserved c =
    let v = c.loop-number.invariant in
    let i = c.loop-number.number-index in
    let l : i < length c.args.numbers.now = (let t = c.loop-number-test.true in omega arith) in
    record {
      count = c.lose_on.ensures.count ∙ v.count;
      loses = loses_both c.args.rows.now c.loop-number.rows c.lose_on.new.rows v.loses c.lose_on.ensures.loses;
      counts = c.lose_on.ensures.counts;
      safe = λ holders s. c.lose_on.ensures.safe holders (v.safe holders s);
      shown = λ d holders s. cut_next c.lose_on.new.rows holders c.lose_on.new.prices c.args.watchers.now d c.args.channel
          c.args.numbers.now i l
          (c.lose_on.ensures.shown (cut_of d c.args.channel (take i c.args.numbers.now)) holders (v.shown d holders s));
    }

pub returns-clause-shown : goal.returns-clause-shown
returns-clause-shown c = λ d holders s w.
    let l : length c.args.numbers.now ≤ c.loop-number.number-index = (let t = c.loop-number-test.false in omega arith) in
    cut_whole c.loop-number.rows holders c.loop-number.prices c.args.watchers.now d c.args.channel c.args.numbers.now w
    (subst (λ (z : List ℕ). ShowsRows c.loop-number.rows holders c.loop-number.prices c.args.watchers.now (cut_of d c.args.channel z))
    (take_all c.loop-number.number-index c.args.numbers.now l) (c.loop-number.invariant.shown d holders s))
