use Rattle.std.proofs.Common.{ℕ, List, [], ◌∷◌, ◌∙◌, get_or, ap}
use Rattle.crypto_ciphers.proofs.aes_block.eight.runs_of.Goals as goal

pub returns-clause-first : goal.returns-clause-first
returns-clause-first c = c.run_of-first.ensures
    ∙ ap (λ (w : List (List ℕ)). get_or w 0 [] ∷ get_or w 1 [] ∷ get_or w 2 [] ∷ get_or w 3 [] ∷ []) c.eight_of-w.ensures

pub returns-clause-second : goal.returns-clause-second
returns-clause-second c = c.run_of-second.ensures
    ∙ ap (λ (w : List (List ℕ)). get_or w 4 [] ∷ get_or w 5 [] ∷ get_or w 6 [] ∷ get_or w 7 [] ∷ []) c.eight_of-w.ensures
