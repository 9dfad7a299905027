use Rattle.run_command.proofs.Listed.{on_ok}
use Rattle.run_command.proofs.Made.{file_added, no_file}
use Rattle.run_command.proofs.made_files.add_file.Goals as goal

pub returns-in-Some : goal.returns-in-Some
returns-in-Some c =
    on_ok c.push_made.result (λ adds.
    file_added c.args.ops.now c.args.settled.now c.args.lists.now c.args.place c.in-Some.path.now c.list_at-numbers.result.now
    c.args.files.now.items c.push_made.new.files.items c.in-Some.ensures c.list_at-numbers.ensures adds) c.push_made.ensures

pub returns-in-None : goal.returns-in-None
returns-in-None c =
    no_file c.args.ops.now c.args.settled.now c.args.lists.now c.args.place c.args.files.now.items c.in-None.ensures
