use Rattle.std.proofs.Common.{ℕ, List, sym, subst}
use Rattle.crypto_ciphers.specs.aes_block.Fronts.{IsBlockFront}
use Rattle.crypto_ciphers.proofs.aes_block.cipher.Aes.encrypt_behind.Goals as goal

pub cipher_behind-requires-clause-front : goal.cipher_behind-requires-clause-front
cipher_behind-requires-clause-front c = subst (λ (ws : List (List ℕ)). IsBlockFront ws c.args.block.now c.args.front.now)
    (sym c.self.view_is) c.requires
