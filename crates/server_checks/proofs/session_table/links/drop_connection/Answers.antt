use Rattle.std.proofs.Common.{ℕ, not, ◌==◌, rules, ◌∙◌}
use Rattle.std.proofs.lemmas.Fn.{filter_same}
use Rattle.server_checks.proofs.session_table.Rows.{without_filter}
use Rattle.server_checks.proofs.session_table.links.drop_connection.Goals as goal

pub returns : goal.returns
returns c = filter_same _ (λ (o : ℕ). not (o == c.args.connection)) _ (λ x b f' k. search rules) _ _
    c.retain.ensures.filtered ∙ without_filter c.args.connection c.args.connections.now.items
