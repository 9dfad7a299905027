use Rattle.std.proofs.Common.{refl}
use Rattle.spec_crypto.specs.ciphers.Field.{sbox}
use Rattle.spec_crypto.specs.ciphers.Aes.{replaced, mixed_columns, block_sum, round_key, rounds, after, cipher, constant}
use Rattle.spec_crypto.specs.ciphers.Aes.{word_change, next_word, expanded}
use Rattle.spec_crypto.specs.ciphers.Blocks.{block_at, chained}
use Rattle.spec_crypto.specs.ciphers.Cmac.{doubled_block, first_subkey, second_subkey, padded, last_block, cmac}
use Rattle.examples_world.proofs.ciphers.cmac_block.Goals as goal

pub returns : goal.returns
unfolding sbox replaced mixed_columns block_sum round_key rounds after cipher constant word_change next_word expanded block_at chained doubled_block first_subkey second_subkey padded last_block cmac
returns c = refl
