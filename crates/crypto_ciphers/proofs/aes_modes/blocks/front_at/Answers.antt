use Rattle.crypto_ciphers.proofs.aes_modes.blocks.front_at.Goals as goal

pub returns-else-block-eq0 : goal.returns-else-block-eq0
returns-else-block-eq0 c = c.requires c.if-block-eq0.false
