use Rattle.std.proofs.Common.{ℕ, List, [], ◌∷◌, get_or}
use Rattle.crypto_ciphers.specs.aes_block.Planes.{IsVectorSum}
use Rattle.crypto_ciphers.proofs.aes_block.PlaneSteps.{sums_told, eight}
use Rattle.crypto_ciphers.proofs.aes_block.planes.sums_of.Goals as goal

pub returns : goal.returns
returns c =
    let q = c.args.q in
    let p = c.args.p in
    let r : List (List ℕ) = c.sum_of-a.result ∷ c.sum_of-b.result ∷ c.sum_of-c.result ∷ c.sum_of-d.result ∷ c.sum_of-e.result
    ∷ c.sum_of-f.result ∷ c.sum_of-g.result ∷ c.sum_of-h.result ∷ [] in
    λ s f g vf vg hq hp. sums_told q p r s f g (eight (λ k. IsVectorSum (get_or q k []) (get_or p k [])
    (get_or r k [])) c.sum_of-a.ensures c.sum_of-b.ensures c.sum_of-c.ensures c.sum_of-d.ensures c.sum_of-e.ensures
    c.sum_of-f.ensures c.sum_of-g.ensures c.sum_of-h.ensures) vf vg hq hp
