use Rattle.std.proofs.Common.{◌≡◌, ◌+◌, ◌*◌, ◌-◌, ◌^◌, ◌<◌, ◌∷◌, [], ◌∙◌, ap, List, ℕ, length, arith}
use Rattle.spec_crypto.specs.ciphers.Aes.{cipher, block_sum}
use Rattle.spec_crypto.specs.ciphers.Ccm.{counter_block}
use Rattle.crypto_ciphers.specs.aes_modes.Counters.{number_block}
use Rattle.crypto_ciphers.specs.aes_modes.InPlace.{run_of, masked_to}
use Rattle.crypto_ciphers.proofs.aes_modes.Bytewise.{counted_is}
use Rattle.crypto_ciphers.proofs.aes_modes.InPlace.{no_run}
use Rattle.crypto_ciphers.proofs.aes_modes.ccm.mask_runs.Goals as goal

pub loop-i-init : goal.loop-i-init
loop-i-init c = no_run c.args.aes.now (λ i. counter_block c.args.nonce.now (i + 1)) c.args.text.now

pub loop-i-preserved : goal.loop-i-preserved
loop-i-preserved c =
    let ws = c.args.aes.now in
    let nonce = c.args.nonce.now in
    let i : ℕ = c.loop-i.i in
    let old : List ℕ = c.args.text.now in
    let f : ℕ → List ℕ = λ k. counter_block nonce (k + 1) in
    let told : (block : List ℕ) (k : ℕ) → block ≡ block_sum c.args.zero.now (number_block (k + 1))
    → k + 1 < 256 ^ (15 - length nonce) → block ≡ counter_block nonce (k + 1) =
    λ block k is lt. is ∙ ap (λ (x : List ℕ). block_sum x (number_block (k + 1))) c.requires.zero
    ∙ counted_is (k + 1) nonce c.requires.long c.requires.short lt in
    let e0 = told _ (4 * (2 * i)) c.counted.ensures (omega arith) in
    let e1 = told _ (4 * (2 * i) + 1) c.counted-in-loop-i.ensures (omega arith) in
    let e2 = told _ (4 * (2 * i) + 2) c.counted-in-loop-i-2.ensures (omega arith) in
    let e3 = told _ (4 * (2 * i) + 3) c.counted-in-loop-i-3.ensures (omega arith) in
    let e4 = told _ (4 * (2 * i + 1)) c.counted-in-loop-i-4.ensures (omega arith) in
    let e5 = told _ (4 * (2 * i + 1) + 1) c.counted-in-loop-i-5.ensures (omega arith) in
    let e6 = told _ (4 * (2 * i + 1) + 2) c.counted-in-loop-i-6.ensures (omega arith) in
    let e7 = told _ (4 * (2 * i + 1) + 3) c.counted-in-loop-i-7.ensures (omega arith) in
    let first : c.encrypt_eight-eight.result.first ≡ run_of ws f (4 * (2 * i)) =
    c.encrypt_eight-eight.ensures.first ∙ (λ t. cipher ws (e0 t) ∷ cipher ws (e1 t) ∷ cipher ws (e2 t) ∷ cipher ws (e3 t) ∷ []) in
    let second : c.encrypt_eight-eight.result.second ≡ run_of ws f (4 * (2 * i + 1)) =
    c.encrypt_eight-eight.ensures.second ∙ (λ t. cipher ws (e4 t) ∷ cipher ws (e5 t) ∷ cipher ws (e6 t) ∷ cipher ws (e7 t) ∷ []) in
    let half = c.mask_run.ensures ws f old c.loop-i.invariant first in
    let whole = c.mask_run-in-loop-i.ensures ws f old half second in
    let n : 64 * (2 * i + 1 + 1) ≡ 64 * (2 * (i + 1)) = omega arith in
    whole ∙ ap (λ (k : ℕ). masked_to ws f old k) n

pub returns-then-pairs-eq0 : goal.returns-then-pairs-eq0
returns-then-pairs-eq0 c =
    let f : ℕ → List ℕ = λ i. counter_block c.args.nonce.now (i + 1) in
    let none : 64 * 0 ≡ 64 * (2 * c.args.pairs) = omega arith in
    no_run c.args.aes.now f c.args.text.now ∙ ap (λ (k : ℕ). masked_to c.args.aes.now f c.args.text.now k) none
