use Rattle.std.proofs.Common.{◌<◌, ◌≤◌, List, ℕ, length, take, subst, refl, arith, ◌∙◌}
use Rattle.std.proofs.lemmas.List.{take_all}
use Rattle.client_rows.specs.Shown.{ShowsRows}
use Rattle.client_tables.specs.cuts.Cutting.{end_of}
use Rattle.client_tables.proofs.cuts.Columns.{end_next, end_whole}
use Rattle.client_tables.proofs.cuts.Losing.{false_true, loses_both, loses_none, none_next, none_whole}
use Rattle.client_tables.proofs.cuts.cutting.lose_session.Goals as goal

pub loop-number-init : goal.loop-number-init
loop-number-init c = record {
  count = refl;
  loses = loses_none c.args.rows.now;
  none = λ g e. absurd (false_true e);
  counts = c.requires.counts;
  safe = λ holders s. s;
  shown = λ d holders s. s;
}

pub lose_any-requires-clause-within : goal.lose_any-requires-clause-within
lose_any-requires-clause-within c =
    let l : c.loop-number.number-index < length c.args.numbers.now = (let t = c.loop-number-test.true in omega arith) in
    omega (arith, c.requires.within c.loop-number.number-index l, c.loop-number.invariant.count)

pub loop-number-preserved : goal.loop-number-preserved
loop-number-preserved c =
    let v = c.loop-number.invariant in
    let i = c.loop-number.number-index in
    let l : i < length c.args.numbers.now = (let t = c.loop-number-test.true in omega arith) in
    record {
      count = c.lose_any.ensures.count ∙ v.count;
      loses = loses_both c.args.rows.now c.loop-number.rows c.lose_any.new.rows v.loses c.lose_any.ensures.loses;
      none = none_next c.loop-number.rows c.lose_any.new.rows c.args.numbers.now i l c.lose_any.ensures.loses
          c.lose_any.ensures.none v.none;
      counts = c.lose_any.ensures.counts;
      safe = λ holders s. c.lose_any.ensures.safe holders (v.safe holders s);
      shown = λ d holders s. end_next c.lose_any.new.rows holders c.lose_any.new.prices c.args.watchers.now d
          c.args.numbers.now i l
          (c.lose_any.ensures.shown (end_of d (take i c.args.numbers.now)) holders (v.shown d holders s));
    }

pub returns-clause-shown : goal.returns-clause-shown
returns-clause-shown c = λ d holders s w.
    let l : length c.args.numbers.now ≤ c.loop-number.number-index = (let t = c.loop-number-test.false in omega arith) in
    end_whole c.loop-number.rows holders c.loop-number.prices c.args.watchers.now d c.args.numbers.now w
    (subst (λ (z : List ℕ). ShowsRows c.loop-number.rows holders c.loop-number.prices c.args.watchers.now (end_of d z))
    (take_all c.loop-number.number-index c.args.numbers.now l) (c.loop-number.invariant.shown d holders s))

pub returns-clause-none : goal.returns-clause-none
returns-clause-none c = λ w.
    let l : length c.args.numbers.now ≤ c.loop-number.number-index = (let t = c.loop-number-test.false in omega arith) in
    none_whole c.args.rows.now c.loop-number.rows c.args.numbers.now c.loop-number.number-index l c.loop-number.invariant.loses
    c.loop-number.invariant.none w
