use Rattle.std.proofs.Common.{◌≡◌, ◌∙◌, option_map, subst}
use Rattle.std.specs.Prelude.{IfOk, OnErr}
use Rattle.std.proofs.lemmas.List.{get_or_default}
use Rattle.spec_exchange.specs.Operations.{value_in}
use Rattle.wire_commands.specs.values.Meaning.{body_of}
use Rattle.client_values.specs.declared.operations.values.OpKind.{OpKind}
use Rattle.client_values.specs.declared.operations.values.OpKind.TheVariants as kinds
use Rattle.client_values.specs.declared.operations.shapes.Kind.TheVariants as shapes
use Rattle.client_values.specs.operations.Waiting.{kind_of}
use Rattle.client_values.specs.operations.Meaning.{op_of, reply_of}
use Rattle.client_events.proofs.event_calls.responses.value_at.Goals as goal

pub returns : goal.returns
returns c =
    let e = c.value_in.ensures in
    let is = c.index-ops-place.is ∙ get_or_default c.args.ops.now c.args.place c.index-ops-place.result (kinds.Close 0) c.requires in
    record {
      reads = subst (λ (z : OpKind). IfOk c.value_in.result (λ v. option_map reply_of v ≡ value_in (op_of z) (body_of c.args.body))) is
          e.reads;
      lacks = subst (λ (z : OpKind). OnErr c.value_in.result (kind_of (op_of z) ≡ shapes.List)) is e.lacks;
    }
