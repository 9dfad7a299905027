use Rattle.std.proofs.Common.{◌≡◌, ◌-◌, ◌<◌, ◌&&◌, ◌||◌, List, length, slice_index_or, sym, ap, ◌∙◌, subst, arith}
use Rattle.spec_exchange.specs.Operations.{is_change, is_create}
use Rattle.client_values.specs.declared.operations.values.OpKind.{OpKind}
use Rattle.client_values.specs.declared.operations.values.OpKind.TheVariants as kinds
use Rattle.client_values.specs.operations.Meaning.{op_of}
use Rattle.client_steps.proofs.sent_requests.heads.is_replay.Goals as goal

pub may_replay_at-may-requires : goal.may_replay_at-may-requires
may_replay_at-may-requires c =
    let n = c.requires.fits.ops_counted in
    let p = c.requires.above in
    let l = c.requires.within in
    subst (λ (xs : List OpKind). c.args.index - 1 < length xs) (sym c.deref.ensures.value) (omega arith)

pub returns : goal.returns
returns c = λ d s.
    let x = c.args.index in
    let taken = s.rows.places.is_taken x c.requires.above c.requires.within in
    let op : op_of (slice_index_or c.deref.result.now (x - 1) (kinds.Close 0)) ≡ d.op x =
    ap (λ (xs : List OpKind). op_of (slice_index_or xs (x - 1) (kinds.Close 0))) c.deref.ensures.value
    ∙ sym (s.values.op_is x c.requires.above taken) in
    let may : c.may_replay_at-may.result ≡ (is_create (d.op x) || is_change (d.op x)) =
    c.may_replay_at-may.ensures ∙ ap (λ z. is_create z || is_change z) op in
    let unanswered : c.is_unanswered-unanswered.result ≡ d.unanswered x =
    c.is_unanswered-unanswered.ensures ∙ sym (s.rows.sends.unanswered_is x) in
    c.both.ensures ∙ (λ t. unanswered t && may t)
