use Rattle.std.proofs.Common.{ap, ◌∙◌, sym, arith}
use Rattle.spec_crypto.specs.ciphers.Rc4.{advanced, stream_byte}
use Rattle.crypto_ciphers.proofs.mac_kdf.Streams.{advanced_by-more, enciphered_more}
use Rattle.crypto_ciphers.proofs.mac_kdf.stream_cipher.Rc4.apply.Goals as goal

pub loop-byte-preserved : goal.loop-byte-preserved
loop-byte-preserved c =
    let i = c.loop-byte.byte-index in
    let next = c.next.ensures.state ∙ ap advanced c.loop-byte.invariant.state in
    record {
      state = next ∙ sym (advanced_by-more c.args.self.now i);
      bytes = enciphered_more c.args.self.now c.args.bytes.now c.loop-byte.bytes i c.next.result (omega arith)
          c.loop-byte.invariant.bytes (c.next.ensures.byte ∙ ap stream_byte next);
    }
