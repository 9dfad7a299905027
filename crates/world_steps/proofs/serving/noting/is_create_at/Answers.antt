use Rattle.std.proofs.Common.{ap, ◌∙◌}
use Rattle.std.proofs.lemmas.List.{get_or_default}
use Rattle.spec_exchange.specs.Operations.{is_create}
use Rattle.client_values.specs.declared.operations.values.OpKind.TheVariants as kinds
use Rattle.client_values.specs.operations.Meaning.{op_of}
use Rattle.world_steps.proofs.serving.noting.is_create_at.Goals as goal

pub returns : goal.returns
returns c =
    c.is_create.ensures
    ∙ ap (λ z. is_create (op_of z))
    (c.index-ops-place.is ∙ get_or_default c.args.ops.now c.args.place c.index-ops-place.result (kinds.Close 0) c.requires)
