use Rattle.std.proofs.Common.{◌+◌, ◌≤◌, subst}
use Rattle.client_rows.specs.operation_rows.Rows.{begins, ends}
use Rattle.client_rows.proofs.operation_rows.Stretch.{end_is, settled_in}
use Rattle.client_rows.proofs.operation_rows.listed.listed_holder.Goals as goal

pub returns-then-left-eq0-clause-settled : goal.returns-then-left-eq0-clause-settled
returns-then-left-eq0-clause-settled c = λ i h k.
    let old = c.args.rows.now in
    let left = c.count_left-left.result in
    settled_in old c.args.holders.now (begins old c.args.index) (ends old c.args.index) left c.requires.listed.ends
    c.count_left-left.ensures.settled i
    (subst (λ z. z ≤ i) (end_is old c.args.index (begins old c.args.index + left) c.requires.within) h) k

pub returns-else-left-eq0-clause-settled : goal.returns-else-left-eq0-clause-settled
returns-else-left-eq0-clause-settled c = λ i h k.
    let old = c.args.rows.now in
    let left = c.count_left-left.result in
    settled_in old c.args.holders.now (begins old c.args.index) (ends old c.args.index) left c.requires.listed.ends
    c.count_left-left.ensures.settled i
    (subst (λ z. z ≤ i) (end_is old c.args.index (begins old c.args.index + left) c.requires.within) h) k
