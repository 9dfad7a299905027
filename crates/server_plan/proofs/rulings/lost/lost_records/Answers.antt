use Rattle.spec_exchange.specs.Records.{origin_at}
use Rattle.spec_exchange.specs.Step.{ends_with}
use Rattle.server_plan.proofs.rulings.Quiet.{if_ok_by, none_if_quiet, none_named, not_quiet, one_named}
use Rattle.server_plan.proofs.rulings.lost.lost_records.Goals as goal

pub returns-then-quiet-clause-told : goal.returns-then-quiet-clause-told
returns-then-quiet-clause-told c = λ s f h. none_if_quiet s (origin_at c.args.connection) (ends_with s c.args.connection) c.args.quiet _
    c.if-quiet.true c.new.ensures

pub returns-in-Some-clause-told : goal.returns-in-Some-clause-told
returns-in-Some-clause-told c = λ s f h. if_ok_by c.session_records.result (c.session_records.ensures s f h)
    (λ rs e. one_named s c.at_connection.result c.args.connection c.in-Some.session (ends_with s c.args.connection) c.args.quiet rs
    c.at_connection.ensures (c.in-Some.ensures s h.sessions) c.if-quiet.false e)

pub returns-in-None-clause-told : goal.returns-in-None-clause-told
returns-in-None-clause-told c = λ s f h. none_named s (origin_at c.args.connection) (ends_with s c.args.connection) c.args.quiet _
    (c.in-None.ensures s h.sessions) c.new-in-None.ensures

pub returns-in-Some-clause-sure : goal.returns-in-Some-clause-sure
returns-in-Some-clause-sure c = λ q. absurd (not_quiet c.args.quiet c.if-quiet.false q)
