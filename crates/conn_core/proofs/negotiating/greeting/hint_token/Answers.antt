use Rattle.std.proofs.Common.{◌∙◌, List, ℕ, true, None, ap}
use Rattle.spec_crypto.specs.tokens.Spnego.{init_spelling}
use Rattle.spec_crypto.specs.tokens.Tokens.{hint_token}
use Rattle.conn_core.proofs.negotiating.Made.{if_ok_by}
use Rattle.conn_core.proofs.negotiating.Hints.{hint_short, hint_writable}
use Rattle.conn_core.proofs.negotiating.greeting.hint_token.Goals as goal

pub write_init-requires : goal.write_init-requires
write_init-requires c = hint_writable c.in_ok-from_slice.field-0 c.in_ok-from_slice.ensures

pub returns-clause-token : goal.returns-clause-token
unfolding hint_token
returns-clause-token c = if_ok_by c.write_init.result c.write_init.ensures (λ b e.
    e ∙ ap (λ (l : List ℕ). init_spelling (record { mech_list = l; ntlm_first = true; token = None; mic = None }))
    c.in_ok-from_slice.ensures)

pub returns-clause-short : goal.returns-clause-short
unfolding hint_token
returns-clause-short c = if_ok_by c.write_init.result c.write_init.ensures (λ b e.
    hint_short b (e ∙ ap (λ (l : List ℕ). init_spelling (record { mech_list = l; ntlm_first = true; token = None; mic = None }))
    c.in_ok-from_slice.ensures))
