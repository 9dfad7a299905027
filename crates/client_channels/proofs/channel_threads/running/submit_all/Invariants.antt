use Rattle.std.proofs.Common.{◌≡◌, ◌+◌, ◌<◌, ◌^◌, vec_len}
use Rattle.serve_turns.specs.shared_book.Words.{view_of, IsSameSeat}
use Rattle.client_channels.proofs.channel_threads.Submitting.{submitted}
use Rattle.client_channels.proofs.channel_threads.running.submit_all.Given as goal

abbrev pub invariant-loop-kind : goal.invariant-loop-kind
invariant-loop-kind g l = record {
  same : IsSameSeat l.initial.seat l.seat;
  few : l.number + vec_len l.ops < 2 ^ 32;
  done : submitted (view_of l.seat).own l.number l.ops.items ≡ submitted (view_of l.initial.seat).own 0 l.initial.ops.items;
}

abbrev pub decreases-loop-kind : goal.decreases-loop-kind
decreases-loop-kind g l = vec_len l.ops
