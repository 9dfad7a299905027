use Rattle.std.proofs.Common.{[], ◌∙◌}
use Rattle.crypto_ciphers.proofs.mac_kdf.Derivations.{output_is}
use Rattle.crypto_ciphers.proofs.mac_kdf.derivation.first_output.Goals as goal

pub returns : goal.returns
returns c =
    let held = c.update-6.ensures _
    (c.update-5.ensures _
    (c.update-4.ensures _ (c.update-3.ensures _ (c.update-2.ensures _ (c.update.ensures [] c.new-inner.ensures)))))
    in
    output_is c.args.key.now c.args.label.now c.args.context.now c.block_for_sha256-block.result c.as_slice.result.now
    c.as_slice-2.result.now c.as_slice-3.result.now c.as_slice-4.result.now c.finalize.result c.outer_sha256.result
    c.args.bits
    c.block_for_sha256-block.ensures (c.as_slice.ensures ∙ c.padded.ensures) (c.as_slice-2.ensures
    ∙ c.to_be_bytes.ensures) c.as_slice-3.ensures (c.as_slice-4.ensures ∙ c.to_be_bytes-2.ensures)
    (c.finalize.ensures _ held) c.outer_sha256.ensures
