use Rattle.std.proofs.Common.{ℕ, List, [], ◌∷◌, get_or, refl}
use Rattle.crypto_ciphers.specs.aes_block.Planes.{IsPicked, after_next_places}
use Rattle.crypto_ciphers.proofs.aes_block.Counted.{all_below}
use Rattle.crypto_ciphers.proofs.aes_block.PlaneSteps.{picked_told, eight}
use Rattle.crypto_ciphers.proofs.aes_block.planes.after_next_of.Goals as goal

pub returns : goal.returns
unfolding all_below
returns c =
    let q = c.args.q in
    let r : List (List ℕ) = c.after_next_in-a.result ∷ c.after_next_in-b.result ∷ c.after_next_in-c.result ∷ c.after_next_in-d.result
    ∷ c.after_next_in-e.result ∷ c.after_next_in-f.result ∷ c.after_next_in-g.result ∷ c.after_next_in-h.result ∷ [] in
    λ s f vf hq. picked_told after_next_places q r s f refl refl
    (eight (λ k. IsPicked after_next_places (get_or q k [])
    (get_or r k [])) c.after_next_in-a.ensures c.after_next_in-b.ensures c.after_next_in-c.ensures c.after_next_in-d.ensures
    c.after_next_in-e.ensures c.after_next_in-f.ensures c.after_next_in-g.ensures c.after_next_in-h.ensures) vf hq
