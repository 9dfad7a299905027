use Rattle.std.proofs.Common.{ℕ, List, [], ◌∷◌, get_or, refl}
use Rattle.crypto_ciphers.specs.aes_block.Planes.{IsPicked, next_places}
use Rattle.crypto_ciphers.proofs.aes_block.Counted.{all_below}
use Rattle.crypto_ciphers.proofs.aes_block.PlaneSteps.{picked_told, eight}
use Rattle.crypto_ciphers.proofs.aes_block.planes.next_of.Goals as goal

pub returns : goal.returns
unfolding all_below
returns c =
    let q = c.args.q in
    let r : List (List ℕ) = c.next_in-a.result ∷ c.next_in-b.result ∷ c.next_in-c.result ∷ c.next_in-d.result ∷ c.next_in-e.result
    ∷ c.next_in-f.result ∷ c.next_in-g.result ∷ c.next_in-h.result ∷ [] in
    λ s f vf hq. picked_told next_places q r s f refl refl (eight
    (λ k. IsPicked next_places (get_or q k [])
    (get_or r k [])) c.next_in-a.ensures c.next_in-b.ensures c.next_in-c.ensures c.next_in-d.ensures c.next_in-e.ensures
    c.next_in-f.ensures c.next_in-g.ensures c.next_in-h.ensures) vf hq
