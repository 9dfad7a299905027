use Rattle.std.proofs.Common.{◌+◌, refl, ◌∙◌}
use Rattle.spec_exchange.specs.Operations.{Unknown}
use Rattle.spec_exchange.specs.Table.{put}
use Rattle.client_values.specs.outcomes.Meaning.{why_of}
use Rattle.client_tables.specs.settling.GivenUp.{finished_below}
use Rattle.client_tables.proofs.settling.GivenUp.{finish_kept, finish_next, first_below, rows_with, still_settled}
use Rattle.client_tables.proofs.settling.GivenUp.{still_unsettled, values_with}
use Rattle.client_tables.proofs.settling.GivenUp.{value_settled, value_unsettled}
use Rattle.client_tables.proofs.settling.Going.{goes_none}
use Rattle.client_tables.proofs.settling.Unsettled.{settled_more}
use Rattle.client_tables.proofs.settling.finishing.give_up.Goals as goal

pub returns-then-rows-index : goal.returns-then-rows-index
returns-then-rows-index c =
    let w = why_of c.args.why in
    let x = c.args.index in
    let e = c.settle_as.ensures in
    record {
      counted = e.counted;
      settles = e.settles;
      counts = e.counts;
      safe = e.safe;
      below = settled_more c.settle_as.new.rows x (λ g l. e.settles.settled g (c.requires.below g l)) e.here;
      shown = λ d holders safe s. (
          let o = (finished_below d w x).outcome in
          let t = s.places.is_taken x c.requires.above c.requires.within in
          rows_with c.settle_as.new.rows holders c.settle_as.new.prices c.settle_as.new.watchers d (put o x (Unknown w))
          (finished_below d w (x + 1)).outcome
          (finish_next d w x c.requires.above t (still_unsettled d w x (s.places.unsettled x c.requires.above t ∙ c.if-rows-index.true)))
          (e.shown (finished_below d w x) holders safe s
          (first_below c.args.rows.now d o x c.requires.below t s.places.unsettled))
          );
      values = λ d ops s. (
          let o = (finished_below d w x).outcome in
          let q = value_unsettled c.args.rows.now ops c.args.settled.now d w x c.requires.above c.requires.within c.requires.counted
          c.if-rows-index.true s in
          values_with c.settle_as.new.rows ops c.settle_as.new.settled d.taken d.op (put o x (Unknown w))
          (finished_below d w (x + 1)).outcome (finish_next d w x c.requires.above q.0 q.1) (e.values (finished_below d w x) ops s)
          );
    }

pub returns-else-rows-index : goal.returns-else-rows-index
returns-else-rows-index c =
    let w = why_of c.args.why in
    let x = c.args.index in
    record {
      counted = refl;
      settles = goes_none c.args.rows.now;
      counts = c.requires.counts;
      safe = λ holders s. s;
      below = settled_more c.args.rows.now x c.requires.below c.if-rows-index.false;
      shown = λ d holders safe s. (
          let t = s.places.is_taken x c.requires.above c.requires.within in
          rows_with c.args.rows.now holders c.args.prices.now c.args.watchers.now d (finished_below d w x).outcome
          (finished_below d w (x + 1)).outcome
          (finish_kept d w x (still_settled d w x (s.places.unsettled x c.requires.above t ∙ c.if-rows-index.false))) s
          );
      values = λ d ops s.
          values_with c.args.rows.now ops c.args.settled.now d.taken d.op (finished_below d w x).outcome
          (finished_below d w (x + 1)).outcome
          (finish_kept d w x (value_settled c.args.rows.now ops c.args.settled.now d w x c.requires.above c.requires.within
          c.requires.counted c.if-rows-index.false s)) s;
    }
