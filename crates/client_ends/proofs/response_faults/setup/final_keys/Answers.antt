use Rattle.std.proofs.Common.{sym, ◌∙◌}
use Rattle.std.specs.Prelude.{is_some}
use Rattle.spec_crypto.specs.sessions.Derivation.{bound_keys, keys_of}
use Rattle.client_ends.proofs.response_faults.Setups.{bound_is, made_is}
use Rattle.client_ends.proofs.response_faults.setup.final_keys.Goals as goal

pub returns-then-bound : goal.returns-then-bound
returns-then-bound c = λ n s.
    let d = c.args.d.now in
    c.bind.ensures
    ∙ ((λ t. bound_keys d.base (c.value-value.ensures t) d.line.keys)
    ∙ bound_is d n d.session s (sym c.binds-bound.ensures ∙ c.if-bound.true))

pub returns-else-bound : goal.returns-else-bound
returns-else-bound c = λ n s.
    let d = c.args.d.now in
    c.derive.ensures
    ∙ ((λ t. keys_of d.base (c.value-value.ensures t) d.chosen.cipher d.chosen.signing d.session)
    ∙ made_is d n (is_some d.bound) d.session s (sym c.binds-bound.ensures ∙ c.if-bound.false))
