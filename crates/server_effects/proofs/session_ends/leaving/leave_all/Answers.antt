use Rattle.std.proofs.Common.{arith, refl}
use Rattle.server_effects.proofs.session_ends.Pieces.{of_turns}
use Rattle.server_effects.proofs.session_ends.Turns.{all_in_turn, begun, next}
use Rattle.server_effects.proofs.session_ends.leaving.leave_all.Goals as goal

pub loop-turn-init : goal.loop-turn-init
loop-turn-init c = record {
  kept = refl;
  shown = λ s f h. begun s c.args.t.now c.args.session c.args.is_quiet f h;
}

pub loop-turn-preserved : goal.loop-turn-preserved
loop-turn-preserved c = record {
  kept = of_turns c.args.t.now c.loop-turn.t c.leave_first.new.t c.loop-turn.invariant.kept c.leave_first.ensures.kept;
  shown = λ s f h. next c.loop-turn.turn s c.loop-turn.t c.args.session c.args.is_quiet c.leave_first.new.t
      (c.loop-turn.invariant.shown s f h) c.leave_first.ensures.shows;
}

pub returns-clause-shows : goal.returns-clause-shows
returns-clause-shows c = λ s f h.
    let n = c.count-count.ensures s h.opens in
    all_in_turn c.loop-turn.turn s c.loop-turn.t c.args.session c.args.is_quiet (c.loop-turn.invariant.shown s f h) (omega arith)

pub returns-clause-kept : goal.returns-clause-kept
returns-clause-kept c = c.loop-turn.invariant.kept
