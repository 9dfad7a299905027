use Rattle.std.proofs.Common.{rules}
use Rattle.std.proofs.lemmas.List.Sorted.{answers_always}
use Rattle.run_command.specs.MadeFiles.{comes_before}
use Rattle.run_command.proofs.Listed.{on_ok}
use Rattle.run_command.proofs.Made.{by_path, sorted_so}
use Rattle.run_command.proofs.made_files.sort.Goals as goal

pub returns : goal.returns
returns c =
    let computes = answers_always _ _ _ (λ f a r q k. search rules) in
    sorted_so c.sort_by.result c.args.files.now.items c.sort_by.new.self.items c.sort_by.ensures.permutation
    (on_ok c.sort_by.result (λ up. up comes_before by_path computes) c.sort_by.ensures.sorted)
    (c.sort_by.ensures.stable comes_before by_path computes)
