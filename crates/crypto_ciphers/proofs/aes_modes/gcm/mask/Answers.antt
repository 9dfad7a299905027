use Rattle.std.proofs.Common.{◌+◌, ◌∙◌, List, ℕ, ap, arith}
use Rattle.spec_crypto.specs.ciphers.Aes.{cipher}
use Rattle.spec_crypto.specs.ciphers.Gcm.{counter_block}
use Rattle.crypto_ciphers.proofs.aes_modes.Fronts.{front_of_same, gcm_serves, gcm_next}
use Rattle.crypto_ciphers.proofs.aes_modes.InPlace.{runs_done, one_masked, all_masked}
use Rattle.crypto_ciphers.proofs.aes_modes.gcm.mask.Goals as goal

pub loop-i-init : goal.loop-i-init
loop-i-init c = record {
  done = runs_done c.args.aes.now (λ i. counter_block c.args.nonce.now (i + 2)) c.args.text.now c.mask_runs.new.text _ (omega arith)
      c.mask_runs.ensures;
  front = front_of_same _ _ _ _ c.counter_block_of.ensures c.front_of-front.ensures;
}

pub front_at-front-requires : goal.front_at-front-requires
front_at-front-requires c = gcm_serves _ c.args.nonce.now _ _ c.loop-i.i c.counter_block_of-block.ensures c.loop-i.invariant.front

pub loop-i-preserved : goal.loop-i-preserved
loop-i-preserved c = record {
  done = one_masked c.args.aes.now (λ i. counter_block c.args.nonce.now (i + 2)) c.args.text.now c.loop-i.text _
      c.encrypt_behind.result c.loop-i.i (omega arith) c.loop-i.invariant.done
      (c.encrypt_behind.ensures ∙ ap (λ (x : List ℕ). cipher c.args.aes.now x) c.counter_block_of-block.ensures) c.mask_block.ensures;
  front = gcm_next _ c.args.nonce.now _ _ c.loop-i.i c.counter_block_of-block.ensures c.front_at-front.ensures;
}

pub returns : goal.returns
returns c = all_masked c.args.aes.now (λ i. counter_block c.args.nonce.now (i + 2)) c.args.text.now c.loop-i.text
    c.loop-i.i (omega arith) c.loop-i.invariant.done
