use Rattle.std.proofs.Common.{ℕ, List, sym, subst}
use Rattle.crypto_ciphers.specs.aes_block.Planes.{ArePlaneKeys}
use Rattle.crypto_ciphers.proofs.aes_block.cipher.Aes.encrypt_eight.Goals as goal

pub runs_of-requires-clause-keys : goal.runs_of-requires-clause-keys
runs_of-requires-clause-keys c = subst (λ (ws : List (List ℕ)). ArePlaneKeys ws c.args.keys.now) (sym c.self.view_is) c.requires
