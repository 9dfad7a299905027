use Rattle.std.proofs.Common.{◌≡◌, ◌+◌, ◌*◌, ◌∷◌, [], ◌∙◌, ap, List, ℕ, arith}
use Rattle.spec_crypto.specs.ciphers.Aes.{cipher}
use Rattle.spec_crypto.specs.ciphers.Gcm.{counter_block}
use Rattle.crypto_ciphers.specs.aes_modes.InPlace.{run_of, masked_to}
use Rattle.crypto_ciphers.proofs.aes_modes.InPlace.{no_run}
use Rattle.crypto_ciphers.proofs.aes_modes.gcm.mask_runs.Goals as goal

pub loop-i-init : goal.loop-i-init
loop-i-init c = no_run c.args.aes.now (λ i. counter_block c.args.nonce.now (i + 2)) c.args.text.now

pub loop-i-preserved : goal.loop-i-preserved
loop-i-preserved c =
    let ws = c.args.aes.now in
    let i : ℕ = c.loop-i.i in
    let old : List ℕ = c.args.text.now in
    let f : ℕ → List ℕ = λ i. counter_block c.args.nonce.now (i + 2) in
    let e0 = c.counter_block_of.ensures in
    let e1 = c.counter_block_of-in-loop-i.ensures in
    let e2 = c.counter_block_of-in-loop-i-2.ensures in
    let e3 = c.counter_block_of-in-loop-i-3.ensures in
    let e4 = c.counter_block_of-in-loop-i-4.ensures in
    let e5 = c.counter_block_of-in-loop-i-5.ensures in
    let e6 = c.counter_block_of-in-loop-i-6.ensures in
    let e7 = c.counter_block_of-in-loop-i-7.ensures in
    let first : c.encrypt_eight-eight.result.first ≡ run_of ws f (4 * (2 * i)) =
    c.encrypt_eight-eight.ensures.first ∙ (λ t. cipher ws (e0 t) ∷ cipher ws (e1 t) ∷ cipher ws (e2 t) ∷ cipher ws (e3 t) ∷ []) in
    let second : c.encrypt_eight-eight.result.second ≡ run_of ws f (4 * (2 * i + 1)) =
    c.encrypt_eight-eight.ensures.second ∙ (λ t. cipher ws (e4 t) ∷ cipher ws (e5 t) ∷ cipher ws (e6 t) ∷ cipher ws (e7 t) ∷ []) in
    let half = c.mask_run.ensures ws f old c.loop-i.invariant first in
    let whole = c.mask_run-in-loop-i.ensures ws f old half second in
    let n : 64 * (2 * i + 1 + 1) ≡ 64 * (2 * (i + 1)) = omega arith in
    whole ∙ ap (λ (k : ℕ). masked_to ws f old k) n

pub returns-then-pairs-eq0 : goal.returns-then-pairs-eq0
returns-then-pairs-eq0 c =
    let f : ℕ → List ℕ = λ i. counter_block c.args.nonce.now (i + 2) in
    let none : 64 * 0 ≡ 64 * (2 * c.args.pairs) = omega arith in
    no_run c.args.aes.now f c.args.text.now ∙ ap (λ (k : ℕ). masked_to c.args.aes.now f c.args.text.now k) none
