use Rattle.run_command.proofs.Listed.{none_next, on_ok, one_next}
use Rattle.run_command.proofs.listing.add.Goals as goal

pub returns-in-Some : goal.returns-in-Some
returns-in-Some c =
    on_ok c.add_at.result
    (λ d. one_next c.args.ops.now c.args.number c.in-Some.create c.args.lists.now.items c.add_at.new.lists.items
    c.in-Some.ensures d) c.add_at.ensures

pub returns-in-None : goal.returns-in-None
returns-in-None c = none_next c.args.ops.now c.args.number c.args.lists.now.items c.in-None.ensures
