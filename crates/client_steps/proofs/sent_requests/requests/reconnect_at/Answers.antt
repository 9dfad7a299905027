use Rattle.std.proofs.Common.{◌≡◌, ◌∙◌, subst}
use Rattle.std.specs.Prelude.{IfOk}
use Rattle.std.proofs.lemmas.List.{get_or_default}
use Rattle.spec_exchange.specs.Operations.{reconnect_of}
use Rattle.wire_commands.specs.values.Meaning.{client_command_of}
use Rattle.client_values.specs.declared.operations.values.OpKind.{OpKind}
use Rattle.client_values.specs.declared.operations.values.OpKind.TheVariants as kinds
use Rattle.client_values.specs.operations.Meaning.{op_of}
use Rattle.client_steps.proofs.sent_requests.requests.reconnect_at.Goals as goal

pub returns : goal.returns
returns c =
    subst (λ (z : OpKind). IfOk c.reconnect_of.result (λ q. client_command_of q ≡ reconnect_of (op_of z) c.args.guid c.args.file))
    (c.index-ops-place.is ∙ get_or_default c.args.ops.now c.args.place c.index-ops-place.result (kinds.Close 0) c.requires)
    c.reconnect_of.ensures
