use Rattle.std.proofs.Common.{ap, sym, ◌∙◌}
use Rattle.spec_exchange.specs.Step.{take_all_records}
use Rattle.server_plan.proofs.rulings.Quiet.{if_ok_by, none_at_stop, not_quiet}
use Rattle.server_plan.proofs.rulings.lost.all_lost_records.Goals as goal

pub returns-then-quiet-clause-told : goal.returns-then-quiet-clause-told
returns-then-quiet-clause-told c = λ s now f h. none_at_stop s now c.args.quiet _ c.if-quiet.true c.new.ensures

pub returns-clause-told : goal.returns-clause-told
returns-clause-told c = λ s now f h. if_ok_by c.all_end_records.result (c.all_end_records.ensures now s f h.opens h.files h.sessions)
    (λ rs e. e ∙ ap (take_all_records s s.connections now) (sym c.if-quiet.false))

pub returns-clause-sure : goal.returns-clause-sure
returns-clause-sure c = λ q. absurd (not_quiet c.args.quiet c.if-quiet.false q)
