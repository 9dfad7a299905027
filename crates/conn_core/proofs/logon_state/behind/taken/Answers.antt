use Rattle.std.proofs.Common.{◌∙◌, List, ℕ, [], ◌∷◌, ◌++◌, append_assoc, sym, ap}
use Rattle.spec_crypto.specs.sessions.Chain.{chain, value_behind}
use Rattle.conn_core.proofs.logon_state.behind.taken.Goals as goal

pub returns : goal.returns
returns c = λ messages e.
    let law = c.chain_law.ensures in
    let request : List ℕ = c.args.request.now in
    let response : List ℕ = c.args.response.now in
    ap chain (sym (append_assoc messages (request ∷ []) (response ∷ [])))
    ∙ (law (messages ++ request ∷ []) response
    ∙ (ap (λ (v : List ℕ). value_behind v response)
    (law messages request ∙ (ap (λ (v : List ℕ). value_behind v request) e ∙ sym c.take.ensures.behind))
    ∙ sym c.take-2.ensures.behind))
