use Rattle.std.proofs.Common.{◌+◌, ◌∙◌, ap, List, ℕ, arith}
use Rattle.spec_crypto.specs.ciphers.Aes.{cipher, block_sum}
use Rattle.spec_crypto.specs.ciphers.Ccm.{counter_block}
use Rattle.crypto_ciphers.specs.aes_modes.Counters.{number_block}
use Rattle.crypto_ciphers.proofs.aes_modes.Bytewise.{counted_is}
use Rattle.crypto_ciphers.proofs.aes_modes.Fronts.{front_of_same, ccm_serves}
use Rattle.crypto_ciphers.proofs.aes_modes.InPlace.{runs_done, one_masked, all_masked}
use Rattle.crypto_ciphers.proofs.aes_modes.ccm.mask.Goals as goal

pub loop-i-init : goal.loop-i-init
loop-i-init c = record {
  done = runs_done c.args.aes.now (λ i. counter_block c.args.nonce.now (i + 1)) c.args.text.now c.mask_runs.new.text _ (omega arith)
      c.mask_runs.ensures;
  front = front_of_same _ _ _ _ c.counted.ensures c.front_of-front.ensures;
}

pub front_at-front-requires : goal.front_at-front-requires
front_at-front-requires c = ccm_serves _ c.args.nonce.now _ _ _ c.loop-i.i c.requires.short c.counter_block_of-zero.ensures
    c.counted-block.ensures c.loop-i.invariant.front

pub loop-i-preserved : goal.loop-i-preserved
loop-i-preserved c = record {
  done = one_masked c.args.aes.now (λ i. counter_block c.args.nonce.now (i + 1)) c.args.text.now c.loop-i.text _
      c.encrypt_behind.result c.loop-i.i (omega arith) c.loop-i.invariant.done
      (c.encrypt_behind.ensures ∙ ap (λ (x : List ℕ). cipher c.args.aes.now x) c.counted-block.ensures
      ∙ ap (λ (x : List ℕ). cipher c.args.aes.now (block_sum x (number_block (c.loop-i.i + 1)))) c.counter_block_of-zero.ensures
      ∙ ap (λ (x : List ℕ). cipher c.args.aes.now x) (counted_is (c.loop-i.i + 1) c.args.nonce.now c.requires.long
      c.requires.short (omega arith)))
      c.mask_block.ensures;
  front = front_of_same _ _ _ _ c.counted-block.ensures c.front_at-front.ensures;
}

pub returns : goal.returns
returns c = all_masked c.args.aes.now (λ i. counter_block c.args.nonce.now (i + 1)) c.args.text.now c.loop-i.text
    c.loop-i.i (omega arith) c.loop-i.invariant.done
