use Rattle.std.proofs.Common.{◌≡◌, [], length, map, reverse}
use Rattle.serve_turns.specs.shared_book.Words.{view_of, IsSeatOf}
use Rattle.client_channels.specs.channel_threads.Seating.{EachAt, IsAlone, KeepsOwn}
use Rattle.client_channels.proofs.channel_threads.running.jobs_of.Given as goal

abbrev pub invariant-loop-channel : goal.invariant-loop-channel
invariant-loop-channel g l = record {
  own : IsSeatOf l.book l.seat;
  kept : KeepsOwn (view_of l.initial.seat) (view_of l.seat) × ((view_of l.seat).ended ≡ (view_of l.initial.seat).ended);
  count : length l.jobs.items ≡ l.channel;
  jobs : EachAt (λ k j. IsSeatOf l.book j.seat × (j.channel ≡ k) × IsAlone (view_of j.seat) × ((view_of j.seat).own ≡ [])) l.jobs.items;
  made : (view_of l.seat).made ≡ reverse (map (λ j. (view_of j.seat).number) l.jobs.items);
}
