use Rattle.std.proofs.Common.{sym, subst, option_copied, option_map}
use Rattle.conn_core.specs.related.Carrying.{RelatedCarries, carry_of}
use Rattle.conn_core.proofs.related.Inherited.{looked_at}
use Rattle.conn_core.proofs.related.carrying.carry.Goals as goal

pub returns-in-None : goal.returns-in-None
returns-in-None c = λ m k here is.
    subst (λ o. RelatedCarries (option_map carry_of c.args.before.now) k (option_copied o) c.behind_none.result) (sym c.in-None.is)
    (c.behind_none.ensures k
    (looked_at c.args.frame.now c.args.at c.checked-checked.result.now m c.message-message.result.now k c.checked-checked.ensures here
    (c.message-message.ensures m here) is))

pub returns-in-Some : goal.returns-in-Some
returns-in-Some c = λ m k here is.
    subst (λ o. RelatedCarries (option_map carry_of c.args.before.now) k (option_copied o) c.behind_answer.result) (sym c.in-Some.is)
    (c.behind_answer.ensures k
    (looked_at c.args.frame.now c.args.at c.checked-checked.result.now m c.message-message.result.now k c.checked-checked.ensures here
    (c.message-message.ensures m here) is))
