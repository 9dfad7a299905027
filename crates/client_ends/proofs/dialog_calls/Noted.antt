-- What an end keeps of its dialog's messages, as a value of the chain.
use Rattle.std.proofs.Common.{◌≡◌, ℕ, List, [], ◌∷◌, ◌++◌, sym, ap, ◌∙◌}
use Rattle.spec_crypto.specs.sessions.Chain.{chain, value_behind}

-- one message more
pub one_more : ((ms : List (List ℕ)) (m : List ℕ) → chain (ms ++ m ∷ []) ≡ value_behind (chain ms) m)
    → (ms : List (List ℕ)) (m old new : List ℕ) → chain ms ≡ old → new ≡ value_behind old m → chain (ms ++ m ∷ []) ≡ new
one_more law ms m old new before e = law ms m ∙ (ap (λ (v : List ℕ). value_behind v m) before ∙ sym e)
