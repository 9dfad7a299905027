use Rattle.std.proofs.Common.{◌≡◌, ◌∙◌, subst}
use Rattle.std.specs.Prelude.{IfOk}
use Rattle.std.proofs.lemmas.List.{get_or_default}
use Rattle.spec_exchange.specs.Operations.{request_of}
use Rattle.wire_commands.specs.values.Meaning.{client_command_of}
use Rattle.client_values.specs.declared.operations.values.OpKind.{OpKind}
use Rattle.client_values.specs.declared.operations.values.OpKind.TheVariants as kinds
use Rattle.client_values.specs.operations.Meaning.{op_of}
use Rattle.client_steps.proofs.sent_requests.requests.request_at.Goals as goal

pub returns : goal.returns
returns c =
    let ids = c.args.ids in
    subst (λ (z : OpKind). IfOk c.request_of.result (λ q. client_command_of q ≡ request_of (op_of z) ids.guid ids.file ids.slot ids.number))
    (c.index-ops-place.is ∙ get_or_default c.args.ops.now c.args.place c.index-ops-place.result (kinds.Close 0) c.requires)
    c.request_of.ensures
