use Rattle.std.proofs.Common.{not, ◌==◌, rules, ◌∙◌}
use Rattle.std.proofs.lemmas.Fn.{filter_same}
use Rattle.spec_exchange.specs.State as model
use Rattle.server_checks.proofs.session_table.Rows.{without_tree_filter}
use Rattle.server_checks.proofs.session_table.trees.retain_others.Goals as goal

pub returns : goal.returns
returns c = filter_same _ (λ (t : model.Tree). not (t.id == c.args.tree)) _ (λ x b f' k. search rules) _ _
    c.retain.ensures.filtered ∙ without_tree_filter c.args.tree c.args.trees.now.items
