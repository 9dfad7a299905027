use Rattle.std.specs.String.{string_bytes}
use Rattle.script_words.proofs.outcome_lines.LineLemmas.{all_told}
use Rattle.script_words.proofs.outcome_lines.run.run_text.Goals as goal

pub returns : goal.returns
returns c = all_told c.args.dialogs.now c.args.settled.now c.args.orders.now c.args.files.now
    (string_bytes c.new-out.result) (string_bytes c.push_dialogs.new.out) (string_bytes c.push_outcomes.new.out)
    (string_bytes c.push_orders.new.out) (string_bytes c.push_files.new.out)
    c.new-out.ensures.bytes c.in_ok-push_dialogs.ensures c.in_ok-push_outcomes.ensures c.in_ok-push_orders.ensures
    c.in_ok-push_files.ensures
