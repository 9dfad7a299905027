use Rattle.std.proofs.Common.{◌+◌, Bool, arith, ap, length, refl, subst, sym, ◌∙◌}
use Rattle.server_effects.proofs.lost_connections.Lost.{InTurn, all_acts, all_out, begun, next}
use Rattle.server_effects.proofs.lost_connections.connections.take_all_out.Goals as goal

pub loop-turn-init : goal.loop-turn-init
loop-turn-init c = record {
  config = refl;
  logons = λ keys pending k. k;
  shown = λ s f h. begun s c.args.t.now c.args.now c.args.is_quiet f h;
}

pub loop-turn-preserved : goal.loop-turn-preserved
loop-turn-preserved c = record {
  config = c.take_first-one.ensures.config ∙ c.loop-turn.invariant.config;
  logons = λ keys pending k. c.take_first-one.ensures.logons keys pending (c.loop-turn.invariant.logons keys pending k);
  shown = λ s f h. subst (λ (b : Bool). InTurn (c.loop-turn.turn + 1) s c.take_first-one.new.t c.args.now c.args.is_quiet b)
      (sym c.is_either-acted.ensures)
      (next c.loop-turn.turn s c.loop-turn.t c.args.now c.args.is_quiet c.loop-turn.acted c.take_first-one.result c.take_first-one.new.t
      (c.loop-turn.invariant.shown s f h) c.take_first-one.ensures.told c.take_first-one.ensures.shows);
}

pub returns-clause-told : goal.returns-clause-told
returns-clause-told c = λ s f h.
    let n = ap length (c.connections-count.ensures s h.sessions) in
    all_acts c.loop-turn.turn s c.loop-turn.t c.args.now c.args.is_quiet c.loop-turn.acted (c.loop-turn.invariant.shown s f h) (omega arith)

pub returns-clause-shows : goal.returns-clause-shows
returns-clause-shows c = λ s f h.
    let n = ap length (c.connections-count.ensures s h.sessions) in
    all_out c.loop-turn.turn s c.loop-turn.t c.args.now c.args.is_quiet c.loop-turn.acted (c.loop-turn.invariant.shown s f h) (omega arith)

pub returns-clause-config : goal.returns-clause-config
returns-clause-config c = c.loop-turn.invariant.config

pub returns-clause-logons : goal.returns-clause-logons
returns-clause-logons c = c.loop-turn.invariant.logons
