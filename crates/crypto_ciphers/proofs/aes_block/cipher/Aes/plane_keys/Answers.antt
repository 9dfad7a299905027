use Rattle.std.proofs.Common.{ℕ, List, subst}
use Rattle.crypto_ciphers.specs.aes_block.Planes.{ArePlaneKeys}
use Rattle.crypto_ciphers.proofs.aes_block.cipher.Aes.plane_keys.Goals as goal

pub returns : goal.returns
returns c = subst (λ (ws : List (List ℕ)). ArePlaneKeys ws c.plane_keys_of.result) c.self.view_is c.plane_keys_of.ensures
