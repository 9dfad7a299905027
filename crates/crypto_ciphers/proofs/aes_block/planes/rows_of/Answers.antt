use Rattle.std.proofs.Common.{ℕ, List, [], ◌∷◌, get_or, refl}
use Rattle.crypto_ciphers.specs.aes_block.Planes.{IsPicked, row_places}
use Rattle.crypto_ciphers.proofs.aes_block.Counted.{all_below}
use Rattle.crypto_ciphers.proofs.aes_block.PlaneSteps.{picked_told, eight}
use Rattle.crypto_ciphers.proofs.aes_block.planes.rows_of.Goals as goal

pub returns : goal.returns
unfolding all_below
returns c =
    let q = c.args.q in
    let r : List (List ℕ) = c.rows_in-a.result ∷ c.rows_in-b.result ∷ c.rows_in-c.result ∷ c.rows_in-d.result ∷ c.rows_in-e.result
    ∷ c.rows_in-f.result ∷ c.rows_in-g.result ∷ c.rows_in-h.result ∷ [] in
    λ s f vf hq. picked_told row_places q r s f refl refl (eight
    (λ k. IsPicked row_places (get_or q k [])
    (get_or r k [])) c.rows_in-a.ensures c.rows_in-b.ensures c.rows_in-c.ensures c.rows_in-d.ensures c.rows_in-e.ensures
    c.rows_in-f.ensures c.rows_in-g.ensures c.rows_in-h.ensures) vf hq
