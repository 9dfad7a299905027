use Rattle.std.proofs.Common.{◌++◌, length, drop, replicate, ap, ◌∙◌}
use Rattle.std.proofs.lemmas.List.{drop-replicate}
use Rattle.crypto_ciphers.proofs.mac_kdf.keyed_hash.zero_padded.Goals as goal

pub returns : goal.returns
returns c =
    let bytes = c.args.bytes.now in
    ap (λ l. l ++ drop (length bytes) (replicate 64 0)) c.copy_from_slice.ensures.after
    ∙ ap (λ l. bytes ++ l) (drop-replicate (length bytes) 64 0)
