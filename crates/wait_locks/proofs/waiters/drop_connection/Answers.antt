use Rattle.std.proofs.Common.{ap, map, not, rules, ◌==◌, ◌∙◌}
use Rattle.std.proofs.lemmas.Fn.{filter_same}
use Rattle.wait_locks.proofs.Named.{others}
use Rattle.wait_locks.specs.Kept.{waiter_of}
use Rattle.wait_locks.specs.declared.waiter.Waiter.{Waiter}
use Rattle.wait_locks.proofs.waiters.drop_connection.Goals as goal

pub returns : goal.returns
returns c = ap (map waiter_of)
    (filter_same _ (λ (w : Waiter). not (w.connection == c.args.connection)) _ (λ x b f' k. search rules) _ _ c.retain.ensures.filtered)
    ∙ others c.args.connection c.args.waiters.now.items
