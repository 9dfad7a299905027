use Rattle.server_core.proofs.durable_state.Choice.{eq_on, eq_off, lt_on, lt_off}
use Rattle.server_core.proofs.durable_state.Making.{by_make, by_look, by_none, by_empty}
use Rattle.server_core.proofs.durable_state.durable.Durable.file_recorded.Goals as goal

pub returns-in-Ok : goal.returns-in-Ok
returns-in-Ok c = λ s i h.
    let k = c.in-Ok.ensures s i h in
    by_make c.make_recorded.new.self s c.args.made.now c.in-Ok.may (eq_on c.args.made.now.action 2 c.if-made-eq2.true) k.0 k.1

pub returns-then-made-eq1 : goal.returns-then-made-eq1
returns-then-made-eq1 c = λ s i h. by_look c.args.self.now s c.args.made.now c.exists.result
    (eq_off c.args.made.now.action 2 c.if-made-eq2.false) (eq_on c.args.made.now.action 1 c.if-made-eq1.true) (c.exists.ensures s h.files) h

pub returns-then-made-lt4 : goal.returns-then-made-lt4
returns-then-made-lt4 c = λ s i h. let k = c.empty_recorded.ensures s h in by_empty c.empty_recorded.new.self s
    c.args.made.now c.empty_recorded.result
    (eq_off c.args.made.now.action 2 c.if-made-eq2.false) (eq_off c.args.made.now.action 1 c.if-made-eq1.false)
    (lt_on c.args.made.now.action 4 c.if-made-lt4.true) k.0 k.1

pub returns : goal.returns
returns c = λ s i h. by_none c.args.self.now s c.args.made.now (eq_off c.args.made.now.action 2 c.if-made-eq2.false)
    (eq_off c.args.made.now.action 1 c.if-made-eq1.false) (lt_off c.args.made.now.action 4 c.if-made-lt4.false) h
