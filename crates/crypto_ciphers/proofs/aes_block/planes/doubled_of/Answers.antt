use Rattle.std.proofs.Common.{ℕ, List, [], ◌∷◌, get_or, refl}
use Rattle.crypto_ciphers.proofs.aes_block.PlaneSteps.{doubled_told}
use Rattle.crypto_ciphers.proofs.aes_block.planes.doubled_of.Goals as goal

pub returns : goal.returns
returns c =
    let q = c.args.q in
    let r : List (List ℕ) = get_or q 7 [] ∷ c.sum_of-b.result ∷ get_or q 1 [] ∷ c.sum_of-d.result ∷ c.sum_of-e.result ∷ get_or q 4 []
    ∷ get_or q 5 [] ∷ get_or q 6 [] ∷ [] in
    λ s f vf hq. doubled_told q r s f refl c.sum_of-b.ensures refl c.sum_of-d.ensures c.sum_of-e.ensures refl refl refl vf hq
