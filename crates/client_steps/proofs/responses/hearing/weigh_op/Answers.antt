use Rattle.std.proofs.Common.{option_map, ap, ◌∙◌}
use Rattle.std.proofs.lemmas.List.{get_or_default}
use Rattle.client_values.specs.declared.operations.values.OpKind.TheVariants as kinds
use Rattle.client_values.specs.operations.Meaning.{op_of, reply_of}
use Rattle.client_values.specs.outcomes.Hearing.{heard_by}
use Rattle.client_steps.proofs.responses.hearing.weigh_op.Goals as goal

pub returns : goal.returns
returns c =
    let ops = c.args.ops.now in
    let asked = c.args.asked in
    c.weigh.ensures
    ∙ ap (λ z. heard_by (op_of z) asked.asking asked.unanswered asked.is_older c.args.status (option_map reply_of c.args.reply))
    (c.index-ops-place.is ∙ get_or_default ops c.args.place c.index-ops-place.result (kinds.Close 0) c.requires)
