use Rattle.std.proofs.Common.{◌+◌, false, length, refl, sym, ◌∙◌}
use Rattle.spec_exchange.specs.Table.{put}
use Rattle.client_rows.specs.operation_rows.Rows.{owner}
use Rattle.client_values.specs.outcomes.Meaning.{outcome_of}
use Rattle.client_tables.proofs.settling.Going.{goes_none}
use Rattle.client_tables.proofs.settling.Settled.{never_unsettled}
use Rattle.client_tables.specs.session_ends.Ending.{ended_below}
use Rattle.client_tables.proofs.session_ends.Ended.{end_first, end_kept, end_next, kind_so, left_so, lost_so, place_in}
use Rattle.client_tables.proofs.session_ends.Ended.{rows_alike, sent_so, taken_so}
use Rattle.client_tables.proofs.session_ends.Ended.{values_alike, waits_so}
use Rattle.client_tables.proofs.session_ends.Lost.{unsettled_is}
use Rattle.client_tables.proofs.session_ends.leaving.leave_one.Goals as goal

pub is_left-requires : goal.is_left-requires
is_left-requires c =
    let own = c.requires.owned c.args.index c.requires.above c.requires.within in
    record {
      within = c.requires.within;
      above = own.0;
      owned = place_in (owner c.args.rows.now c.args.index) (length c.args.rows.now) (length c.args.ops.now) own.1 c.requires.ops_counted;
    }

pub lost_as-requires : goal.lost_as-requires
lost_as-requires c =
    record { within = c.requires.within; owned = (c.requires.owned c.args.index c.requires.above c.requires.within).1 }

pub returns-then-is_left : goal.returns-then-is_left
returns-then-is_left c =
    let rows = c.args.rows.now in
    let x = c.args.index in
    let own = c.requires.owned x c.requires.above c.requires.within in
    record {
      counted = refl;
      settles = goes_none rows;
      counts = c.requires.counts;
      safe = λ holders s. s;
      shown = λ d holders k n safe v s. (
          let e = end_kept d x (left_so rows holders c.args.prices.now c.args.watchers.now c.args.ops.now c.args.settled.now d x
          c.requires.above c.requires.within own s v (sym c.is_left.ensures ∙ c.if-is_left.true)) in (
            rows_alike rows holders c.args.prices.now c.args.watchers.now d (ended_below d x).outcome (ended_below d (x + 1)).outcome
                (λ g a l. e g) s,
            values_alike rows c.args.ops.now c.args.settled.now d.taken d.op (ended_below d x).outcome (ended_below d (x + 1)).outcome
                (λ g a l. e g) v,
          )
          );
    }

pub returns-in-Some : goal.returns-in-Some
returns-in-Some c =
    let rows = c.args.rows.now in
    let x = c.args.index in
    let own = c.requires.owned x c.requires.above c.requires.within in
    let o = c.in-Some.outcome in
    let e = c.settle_as.ensures in
    record {
      counted = e.counted;
      settles = e.settles;
      counts = e.counts;
      safe = e.safe;
      shown = λ d holders k n safe v s. (
          let p = c.args.prices.now in
          let ws = c.args.watchers.now in
          let ops = c.args.ops.now in
          let was = c.args.settled.now in
          let a = c.requires.above in
          let l = c.requires.within in
          let w = lost_so rows holders p ws ops was d x a l own s v (sym c.is_left.ensures ∙ c.if-is_left.false) in
          let q = w.1 ∙ c.in-Some.ensures d (sent_so rows holders p ws ops was d x a l own s v)
          (kind_so rows holders p ws ops was d x a l own s v) (waits_so rows holders p ws ops was d x a l own s v k) n in
          let f = end_first d x (outcome_of o) k a (taken_so rows holders p ws ops was d x a l own s v) q (never_unsettled o) in
          let next = end_next d x (outcome_of o) q in (
            rows_alike c.settle_as.new.rows holders c.settle_as.new.prices c.settle_as.new.watchers d
                (put (ended_below d x).outcome x (outcome_of o)) (ended_below d (x + 1)).outcome (λ g b m. next g)
                (e.shown (ended_below d x) holders safe s f),
            values_alike c.settle_as.new.rows ops c.settle_as.new.settled d.taken d.op (put (ended_below d x).outcome x (outcome_of o))
                (ended_below d (x + 1)).outcome (λ g b m. next g) (e.values (ended_below d x) ops v),
          )
          );
    }

pub returns-in-None : goal.returns-in-None
returns-in-None c =
    let rows = c.args.rows.now in
    let x = c.args.index in
    let own = c.requires.owned x c.requires.above c.requires.within in
    record {
      counted = refl;
      settles = goes_none rows;
      counts = c.requires.counts;
      safe = λ holders s. s;
      shown = λ d holders k n safe v s. (
          let p = c.args.prices.now in
          let ws = c.args.watchers.now in
          let ops = c.args.ops.now in
          let was = c.args.settled.now in
          let a = c.requires.above in
          let l = c.requires.within in
          let w = lost_so rows holders p ws ops was d x a l own s v (sym c.is_left.ensures ∙ c.if-is_left.false) in
          let q = w.1 ∙ c.in-None.ensures d (sent_so rows holders p ws ops was d x a l own s v)
          (kind_so rows holders p ws ops was d x a l own s v) (waits_so rows holders p ws ops was d x a l own s v k) n in
          let e = end_kept d x (q ∙ sym (unsettled_is (d.outcome x) w.0)) in (
            rows_alike rows holders p ws d (ended_below d x).outcome (ended_below d (x + 1)).outcome (λ g b m. e g) s,
            values_alike rows ops was d.taken d.op (ended_below d x).outcome (ended_below d (x + 1)).outcome (λ g b m. e g) v,
          )
          );
    }
