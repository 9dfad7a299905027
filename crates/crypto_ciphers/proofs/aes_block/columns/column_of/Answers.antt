use Rattle.std.proofs.Common.{ℕ, ◌<◌, get_or, rules}
use Rattle.crypto_ciphers.proofs.aes_block.Rounds.{rows_read}
use Rattle.crypto_ciphers.proofs.aes_block.columns.column_of.Goals as goal

pub returns : goal.returns
returns c =
    let small : (k : ℕ) → get_or c.args.w.now k 0 < 256 = search rules in
    rows_read _ _ _ _ _ (small 0) (small 1) (small 2) (small 3) c.from_le_bytes.ensures
