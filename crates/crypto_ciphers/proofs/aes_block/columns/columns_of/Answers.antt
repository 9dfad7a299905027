use Rattle.std.proofs.Common.{ℕ, ◌<◌, get_or, rules}
use Rattle.crypto_ciphers.proofs.aes_block.Rounds.{columns_are}
use Rattle.crypto_ciphers.proofs.aes_block.columns.columns_of.Goals as goal

pub returns : goal.returns
returns c =
    let small : (i : ℕ) → get_or c.args.block.now i 0 < 256 = search rules in
    columns_are c.args.block.now _ _ small c.from_le_bytes-left.ensures c.from_le_bytes-right.ensures
