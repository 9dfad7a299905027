use Rattle.std.proofs.Common.{◌≡◌, take}
use Rattle.crypto_ciphers.proofs.aes_modes.blocks.is_same.Given as goal

abbrev pub invariant-loop-i : goal.invariant-loop-i
invariant-loop-i l = record { none : l.differing ≡ 0 → take l.i l.a ≡ take l.i l.b; same : take l.i l.a ≡ take l.i l.b → l.differing ≡ 0 }
