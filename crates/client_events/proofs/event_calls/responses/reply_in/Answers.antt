use Rattle.std.proofs.Common.{◌≡◌, ◌-◌, ◌<◌, List, length, option_map, slice_index_or, sym, ap, ◌∙◌, subst, arith}
use Rattle.std.proofs.lemmas.Result.{IfOk-weaker, on_err_weaker}
use Rattle.spec_exchange.specs.Operations.{value_in}
use Rattle.spec_exchange.specs.Client.{Client}
use Rattle.wire_commands.specs.values.Meaning.{body_of}
use Rattle.client_values.specs.declared.operations.values.OpKind.{OpKind}
use Rattle.client_values.specs.declared.operations.values.OpKind.TheVariants as kinds
use Rattle.client_values.specs.operations.Waiting.{kind_of}
use Rattle.client_values.specs.operations.Meaning.{op_of, reply_of}
use Rattle.client_steps.specs.whole_client.Shown.{ShowsClient}
use Rattle.client_events.proofs.event_calls.responses.reply_in.Goals as goal

pub value_at-requires : goal.value_at-requires
value_at-requires c =
    let n = c.requires.fits.whole.table.ops_counted in
    let p = c.requires.above in
    let l = c.requires.within in
    subst (λ (xs : List OpKind). c.args.index - 1 < length xs) (sym c.deref.ensures.value) (omega arith)

pub returns : goal.returns
returns c =
    let x = c.args.index in
    let body = body_of c.args.body in
    let is_op = op_of (slice_index_or c.deref.result.now (x - 1) (kinds.Close 0)) in
    let op : (d : Client) → ShowsClient c.args.client.now d → is_op ≡ d.op x = (λ d s.
    ap (λ (xs : List OpKind). op_of (slice_index_or xs (x - 1) (kinds.Close 0))) c.deref.ensures.value
    ∙ sym (s.table.values.op_is x c.requires.above (s.table.rows.places.is_taken x c.requires.above c.requires.within))) in
    record {
      reads = IfOk-weaker c.value_at.result (λ v. option_map reply_of v ≡ value_in is_op body)
          (λ v. (d : Client) → ShowsClient c.args.client.now d → option_map reply_of v ≡ value_in (d.op x) body)
          (λ v is d s. is ∙ ap (λ z. value_in z body) (op d s))
          c.value_at.ensures.reads;
      lacks = on_err_weaker c.value_at.result (λ is d s. sym (ap (λ z. kind_of z) (op d s)) ∙ is) c.value_at.ensures.lacks;
    }
