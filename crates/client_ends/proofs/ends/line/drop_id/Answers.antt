use Rattle.std.proofs.Common.{not, ◌==◌, rules}
use Rattle.std.proofs.lemmas.Fn.{filter_same}
use Rattle.client_ends.specs.declared.ends.line.Outstanding.{Outstanding}
use Rattle.client_ends.proofs.ends.line.drop_id.Goals as goal

pub returns : goal.returns
returns c = filter_same _ (λ (o : Outstanding). not (o.id == c.args.id)) _ (λ x b f' k. search rules) _ _ c.retain.ensures.filtered
