use Rattle.std.proofs.Common.{◌∙◌}
use Rattle.client_ends.proofs.dialog_calls.Trees.{plain_heard}
use Rattle.client_ends.proofs.dialog_calls.hearing.hear_tree.Goals as goal

pub returns-then-encrypts : goal.returns-then-encrypts
returns-then-encrypts c = λ n number s. c.hear_sealed.ensures n number s c.if-encrypts.true

pub returns-else-encrypts : goal.returns-else-encrypts
returns-else-encrypts c = λ n number s.
    plain_heard c.args.d.now c.take_tree.new.d n number c.args.frame.now c.take_tree.result (s.1.encrypts ∙ c.if-encrypts.false)
    (c.take_tree.ensures n number s)
