use Rattle.std.proofs.Common.{◌≡◌, ◌∙◌, List, ℕ, replicate, subst}
use Rattle.spec_crypto.specs.ciphers.Aes.{round_key}
use Rattle.crypto_ciphers.specs.aes_block.Planes.{IsVector, ArePlanes}
use Rattle.crypto_ciphers.proofs.aes_block.eight.key_planes_of.Goals as goal

pub returns : goal.returns
returns c =
    let is : c.held-block.result ≡ round_key c.args.words.now c.args.round = c.held-block.ensures.same ∙ c.block_of-key.ensures
    ∙ c.key_of.ensures in
    record {
      bytes = subst IsVector is c.held-block.ensures.bytes;
      planes = subst (λ (v : List ℕ). ArePlanes c.turned.result (replicate 8 v)) is c.turned.ensures;
    }
