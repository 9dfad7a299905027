use Rattle.std.proofs.Common.{refl}
use Rattle.crypto_ciphers.proofs.aes_modes.gcm.tag_of_sealed.Goals as goal

pub returns : goal.returns
returns c = rw (
  c.block_sum_of.ensures,
  c.to_be_bytes.ensures,
  c.ghash_of-hash.ensures,
  c.table_of.ensures,
  c.enciphered-mask.ensures,
  c.counter_block_of.ensures,
) refl
