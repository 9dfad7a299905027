use Rattle.std.proofs.Common.{◌≡◌, ◌-◌, ◌<◌, nat_lt, List, length, option_map, slice_index_or, sym, ap, ◌∙◌, subst, arith}
use Rattle.spec_exchange.specs.Operations.{value_in}
use Rattle.client_values.specs.declared.operations.values.OpKind.{OpKind}
use Rattle.client_values.specs.declared.operations.values.OpKind.TheVariants as kinds
use Rattle.client_values.specs.operations.Meaning.{op_of, reply_of}
use Rattle.client_values.specs.outcomes.Hearing.{heard_by}
use Rattle.client_steps.proofs.responses.Heard.{heard_alike}
use Rattle.client_steps.proofs.responses.hearing.weigh_at.Goals as goal

pub weigh_op-requires : goal.weigh_op-requires
weigh_op-requires c =
    let n = c.requires.fits.ops_counted in
    let p = c.requires.above in
    let l = c.requires.within in
    subst (λ (xs : List OpKind). c.args.index - 1 < length xs) (sym c.deref.ensures.value) (omega arith)

pub returns : goal.returns
returns c = λ d r s status reply.
    let x = c.args.index in
    let said = option_map reply_of c.args.reply in
    let taken = s.rows.places.is_taken x c.requires.above c.requires.within in
    let op : op_of (slice_index_or c.deref.result.now (x - 1) (kinds.Close 0)) ≡ d.op x =
    ap (λ (xs : List OpKind). op_of (slice_index_or xs (x - 1) (kinds.Close 0))) c.deref.ensures.value
    ∙ sym (s.values.op_is x c.requires.above taken) in
    let unanswered : c.is_unanswered-unanswered.result ≡ d.unanswered x =
    c.is_unanswered-unanswered.ensures ∙ sym (s.rows.sends.unanswered_is x) in
    let older : c.is_behind-is_older.result ≡ nat_lt (d.sequence_of x) d.sequence =
    c.is_behind-is_older.ensures d s.session
    ∙ ap (λ y. nat_lt y d.sequence) (c.sequence_of-sequence.ensures ∙ sym (s.rows.sends.sequence_is x)) in
    c.weigh_op.ensures ∙ (λ t. heard_by (op t) c.args.asking (unanswered t) (older t) ((sym status) t) said)
    ∙ heard_alike (d.op x) c.args.asking (d.unanswered x) (nat_lt (d.sequence_of x) d.sequence) r.status said
    (value_in (d.op x) r.body) reply
