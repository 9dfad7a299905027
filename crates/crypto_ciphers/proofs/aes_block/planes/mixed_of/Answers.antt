use Rattle.std.proofs.Common.{ℕ, List, [], map, get_or}
use Rattle.std.specs.Int.Bits.{bit_xor}
use lib.Lanes.{zip2}
use Rattle.spec_crypto.specs.ciphers.Field.{doubled}
use Rattle.crypto_ciphers.specs.aes_block.Planes.{next, after_next}
use Rattle.crypto_ciphers.proofs.aes_block.PlaneSteps.{are_vectors, mapped_vector, small_doubled}
use Rattle.crypto_ciphers.proofs.aes_block.PlaneRounds.{next_vector, pairs_vector, twice_vector, after_next_vector}
use Rattle.crypto_ciphers.proofs.aes_block.planes.mixed_of.Goals as goal

pub returns : goal.returns
returns c =
    λ s f vf hq.
    let pair : List ℕ → List ℕ = λ v. zip2 bit_xor (f v) (next (f v)) in
    let twice : List ℕ → List ℕ = λ v. zip2 bit_xor (map doubled (pair v)) (next (f v)) in
    let vn = are_vectors f (λ v. next (f v)) s vf (λ j lj p. next_vector (f (get_or s j [])) p) in
    let vp = are_vectors f pair s vf (λ j lj p. pairs_vector (f (get_or s j [])) p) in
    let vd = are_vectors pair (λ v. map doubled (pair v)) s vp (λ j lj p. mapped_vector doubled (pair (get_or s j [])) small_doubled p) in
    let vt = are_vectors f twice s vf (λ j lj p. twice_vector (f (get_or s j [])) p) in
    let va = are_vectors pair (λ v. after_next (pair v)) s vp (λ j lj p. after_next_vector (pair (get_or s j [])) p) in
    let below = c.next_of-below.ensures s f vf hq in
    let pairs = c.sums_of-pairs.ensures s f (λ v. next (f v)) vf vn hq below in
    let double = c.doubled_of.ensures s pair vp pairs in
    let doubles = c.sums_of-twice.ensures s (λ v. map doubled (pair v)) (λ v. next (f v)) vd vn double below in
    let far = c.after_next_of.ensures s pair vp pairs in
    c.sums_of.ensures s twice (λ v. after_next (pair v)) vt va doubles far
