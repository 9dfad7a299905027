use Rattle.std.proofs.Common.{ℕ, ◌-◌, List, length, slice_index_or, sym, ap, ◌∙◌, arith}
use Rattle.spec_exchange.specs.Operations.{is_create}
use Rattle.client_values.specs.declared.operations.values.OpKind.{OpKind}
use Rattle.client_values.specs.declared.operations.values.OpKind.TheVariants as kinds
use Rattle.client_values.specs.operations.Meaning.{op_of}
use Rattle.world_steps.proofs.serving.Tokens.{no_such}
use Rattle.world_steps.proofs.serving.noting.is_create_in.Goals as goal

pub returns-then-within : goal.returns-then-within
returns-then-within c = λ d shows above le.
    let n = c.args.number in
    c.is_create_at.ensures
    ∙ (ap (λ (k : ℕ). is_create (op_of (slice_index_or c.as_slice-ops.result.now k (kinds.Close 0)))) c.saturating_sub-place.ensures
    ∙ (ap (λ (xs : List OpKind). is_create (op_of (slice_index_or xs (n - 1) (kinds.Close 0)))) c.as_slice-ops.ensures.value
    ∙ sym (ap is_create (shows.table.values.op_is n above le))))

pub returns : goal.returns
returns c = λ d shows above le.
    no_such c.args.number d.taken (length c.args.core.now.table.ops.items) (is_create (d.op c.args.number))
    shows.table.values.ops_counted above le
    (λ l. (let past = c.if-within.false in let at = c.saturating_sub-place.ensures in let same = ap length c.as_slice-ops.ensures.value in
    omega (arith, l, past, at, same)))
