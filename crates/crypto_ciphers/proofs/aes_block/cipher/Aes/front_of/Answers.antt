use Rattle.std.proofs.Common.{ℕ, List, subst}
use Rattle.crypto_ciphers.specs.aes_block.Fronts.{IsBlockFront}
use Rattle.crypto_ciphers.proofs.aes_block.cipher.Aes.front_of.Goals as goal

pub returns : goal.returns
returns c = subst (λ (ws : List (List ℕ)). IsBlockFront ws c.args.block.now c.front_of.result) c.self.view_is c.front_of.ensures
