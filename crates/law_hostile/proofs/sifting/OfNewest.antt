-- Pairs that reached an open don't look at what waits.
use Rattle.law_hostile.specs.sifting.Sifting.{NewestSifts}

pub newest_sifts : NewestSifts
newest_sifts w k d one was =
    record {
      ranked = was.ranked;
      ranked_change = was.ranked_change;
      reached_given = was.reached_given;
      held = was.held;
      low_sequences = was.low_sequences;
      ordered = was.ordered;
    }
