use Rattle.std.proofs.Common.{◌≡◌, ◌++◌, map, reverse, vec_len}
use Rattle.serve_turns.specs.shared_book.Words.{view_of, IsSeatOf}
use Rattle.client_channels.specs.channel_threads.Seating.{EachAt, IsAlone, KeepsOwn, seat_told}
use Rattle.client_channels.proofs.channel_threads.running.rejoin_all.Given as goal

abbrev pub invariant-loop-each : goal.invariant-loop-each
invariant-loop-each g l = record {
  own : IsSeatOf l.book l.seat;
  kept : KeepsOwn (view_of l.initial.seat) (view_of l.seat) × ((view_of l.seat).made ≡ (view_of l.initial.seat).made);
  all : EachAt (λ k w. IsSeatOf l.book w.seat × IsAlone (view_of w.seat)) l.worked.items;
  done : (view_of l.seat).ended ++ reverse (map (λ w. seat_told (view_of w.seat)) l.worked.items)
      ≡ (view_of l.initial.seat).ended ++ reverse (map (λ w. seat_told (view_of w.seat)) l.initial.worked.items);
}

abbrev pub decreases-loop-each : goal.decreases-loop-each
decreases-loop-each g l = vec_len l.worked
