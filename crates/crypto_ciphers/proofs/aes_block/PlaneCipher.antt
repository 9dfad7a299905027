-- Rounds over planes, one behind the other, are the cipher of each block.
use Rattle.std.proofs.Common.{w8, Fits, inl, inr, ◌≡◌, ◌≢◌, ℕ, suc, ◌+◌, ◌-◌, ◌<◌, ◌≤◌, List, [], ◌∷◌, length, map, get_or, replicate}
use Rattle.std.proofs.Common.{refl, sym, ap, subst, ◌∙◌, arith}
use Rattle.std.proofs.Math.ListN.{set}
use Rattle.std.specs.Int.Bits.{bit_xor}
use Rattle.std.proofs.lemmas.List.{get_or-map, length-map, get_or-set_other, get_or-set_same}
use Rattle.std.proofs.lemmas.Simd.{map-map}
use Rattle.std.proofs.lemmas.Bool.{cases_lt}
use lib.Lanes.{zip2, Each1}
use Rattle.spec_crypto.specs.ciphers.Aes.{after, cipher, rounds, round_key}
use Rattle.crypto_ciphers.specs.aes_block.Rounds.{block_round, block_last}
use Rattle.crypto_ciphers.specs.aes_block.Planes.{IsVector, AreVectors, ArePlanes, ArePlanesOfKey}
use Rattle.crypto_ciphers.proofs.aes_block.Turns.{lane_small}
use Rattle.crypto_ciphers.proofs.aes_block.PlaneSteps.{turned_back, eight}
use Rattle.crypto_ciphers.proofs.aes_block.PlaneRounds.{vectors_of, planes_same, plane_sum, round_vector, last_vector, sum_is_vector}

const_map : (k : List ℕ) (s : List (List ℕ)) → map (λ v. k) s ≡ replicate (length s) k
const_map k [] = refl
const_map k (v ∷ s) = ap (λ (l : List (List ℕ)). k ∷ l) (const_map k s)

same_map : (s : List (List ℕ)) → map (λ v. v) s ≡ s
same_map [] = refl
same_map (v ∷ s) = ap (λ (l : List (List ℕ)). v ∷ l) (same_map s)

-- the planes of a round's key stand beside those of any eight vectors
pub key_beside : (ws s key : List (List ℕ)) (r : ℕ) → length s ≡ 8 → ArePlanesOfKey ws r key → ArePlanes key (map (λ v. round_key ws r) s)
key_beside ws s key r count k =
    subst (λ (l : List (List ℕ)). ArePlanes key l) (sym (const_map (round_key ws r) s ∙ ap
    (λ (n : ℕ). replicate n (round_key ws r)) count)) k.planes

pub as_map : (q s : List (List ℕ)) → ArePlanes q s → ArePlanes q (map (λ v. v) s)
as_map q s h = subst (λ (l : List (List ℕ)). ArePlanes q l) (sym (same_map s)) h

pub vectors_as_map : (s : List (List ℕ)) → AreVectors s → AreVectors (map (λ v. v) s)
vectors_as_map s v = subst AreVectors (sym (same_map s)) v

-- eight times the key of a round
pub key_vectors : (ws s key : List (List ℕ)) (r : ℕ) → AreVectors s → ArePlanesOfKey ws r key → AreVectors (map (λ v. round_key ws r) s)
key_vectors ws s key r v k = vectors_of (λ x. round_key ws r) s v (λ x p. k.bytes)

-- ---- the states behind n rounds

pub begun : (ws q s : List (List ℕ)) (key : List (List ℕ)) → AreVectors s → ArePlanesOfKey ws 0 key
    → ArePlanes q (map (λ v. zip2 bit_xor v (round_key ws 0)) s) → ArePlanes q (map (λ v. after ws v 0) s)
unfolding after
begun ws q s key v k h =
    planes_same q s (λ x. zip2 bit_xor x (round_key ws 0)) (λ x. after ws x 0) v (λ x p. plane_sum x (round_key ws 0) p k.bytes) h

pub begun_vector : (ws : List (List ℕ)) (key : List (List ℕ)) (v : List ℕ) → IsVector v → ArePlanesOfKey ws 0 key → IsVector (after ws v 0)
unfolding after
begun_vector ws key v p k = sum_is_vector v (round_key ws 0) p k.bytes

pub more : (ws q s : List (List ℕ)) (n r : ℕ) → r ≡ suc n → ArePlanes q
    (map (λ v. block_round v (round_key ws r)) (map (λ v. after ws v n) s))
    → ArePlanes q (map (λ v. after ws v r) s)
unfolding after
more ws q s n r is h =
    subst (λ (m : ℕ). ArePlanes q (map (λ v. after ws v m) s)) (sym is)
    (subst (λ (m : ℕ). ArePlanes q (map (λ v. block_round (after ws v n) (round_key ws m)) s)) is
    (subst (λ (l : List (List ℕ)). ArePlanes q l) (map-map (λ v. block_round v (round_key ws r)) (λ v. after ws v n) s) h))

pub more_vector : (ws key : List (List ℕ)) (v : List ℕ) (n r : ℕ) → r ≡ suc n → IsVector (after ws v n) → ArePlanesOfKey ws r key
    → IsVector (after ws v r)
unfolding after
more_vector ws key v n r is p k =
    subst (λ (m : ℕ). IsVector (after ws v m)) (sym is)
    (subst (λ (m : ℕ). IsVector (block_round (after ws v n) (round_key ws m))) is (round_vector (after ws v n) (round_key ws r) p k.bytes))

pub next_vector_of : (ws key : List (List ℕ)) (v : List ℕ) (r : ℕ) → 1 ≤ r → IsVector (after ws v (r - 1)) → ArePlanesOfKey ws r key
    → IsVector (after ws v (r + 1 - 1))
next_vector_of ws key v r le p k =
    let same : r ≡ r + 1 - 1 = omega arith in
    subst (λ (m : ℕ). IsVector (after ws v m)) same (more_vector ws key v (r - 1) r (omega arith) p k)

pub ended : (ws q s : List (List ℕ)) (n : ℕ) → n ≡ rounds ws - 1
    → ArePlanes q (map (λ v. block_last v (round_key ws (rounds ws))) (map (λ v. after ws v n) s)) → ArePlanes q (map (λ v. cipher ws v) s)
unfolding cipher
ended ws q s n is h =
    subst (λ (m : ℕ). ArePlanes q (map (λ v. block_last (after ws v m) (round_key ws (rounds ws))) s)) is
    (subst (λ (l : List (List ℕ)). ArePlanes q l) (map-map (λ v. block_last v (round_key ws (rounds ws))) (λ v. after ws v n) s) h)

pub ended_vector : (ws key : List (List ℕ)) (v : List ℕ) (n : ℕ) → n ≡ rounds ws - 1 → IsVector (after ws v n)
    → ArePlanesOfKey ws (rounds ws) key → IsVector (cipher ws v)
unfolding cipher
ended_vector ws key v n is p k =
    subst (λ (m : ℕ). IsVector (block_last (after ws v m) (round_key ws (rounds ws)))) is
    (last_vector (after ws v n) (round_key ws (rounds ws)) p k.bytes)

-- turned back, vector j is the block under the key
pub told : (ws w q s : List (List ℕ)) (j : ℕ) → AreVectors s → ((i : ℕ) → i < 8 → IsVector (cipher ws (get_or s i [])))
    → ArePlanes w q → ArePlanes q (map (λ v. cipher ws v) s) → j < 8 → IsVector (get_or w j []) → get_or w j [] ≡ cipher ws (get_or s j [])
told ws w q s j v vectors hw hq lj pw =
    let at : get_or (map (λ v. cipher ws v) s) j [] ≡ cipher ws (get_or s j []) =
    get_or-map (λ v. cipher ws v) s j [] [] (omega (arith, v.count)) in
    turned_back w q (map (λ v. cipher ws v) s) j hw hq lj pw (subst IsVector (sym at) (vectors j lj)) ∙ at

pub byte_vector : (v : List ℕ) → length v ≡ 16 → Each1 (Fits w8) v → IsVector v
byte_vector v len fits = record { len = len; bytes = λ i. lane_small v i fits }

-- ---- the steps of the loop

pub begun_planes : (ws q p s key : List (List ℕ)) → AreVectors s → ArePlanesOfKey ws 0 key → ArePlanes p s
    → ((s : List (List ℕ)) (f g : List ℕ → List ℕ) → AreVectors (map f s) → AreVectors (map g s) → ArePlanes p (map f s) → ArePlanes key
    (map g s)
    → ArePlanes q (map (λ v. zip2 bit_xor (f v) (g v)) s))
    → ArePlanes q (map (λ v. after ws v 0) s)
begun_planes ws q p s key v k hp made =
    begun ws q s key v k
    (made s (λ x. x) (λ x. round_key ws 0) (vectors_as_map s v) (key_vectors ws s key 0 v k) (as_map p s hp)
    (key_beside ws s key 0 v.count k))

-- eight states
pub states : (ws s : List (List ℕ)) (n : ℕ) → AreVectors s → ((j : ℕ) → j < 8 → IsVector (after ws (get_or s j []) n))
    → AreVectors (map (λ v. after ws v n) s)
states ws s n v bytes = record {
  count = length-map s (λ x. after ws x n) ∙ v.count;
  each = λ j lj. subst IsVector (sym (get_or-map (λ x. after ws x n) s j [] [] (omega (arith, v.count)))) (bytes j lj);
}

pub more_planes : (ws q t s key : List (List ℕ)) (r : ℕ) → 1 ≤ r → AreVectors s → ArePlanesOfKey ws r key
    → ((j : ℕ) → j < 8 → IsVector (after ws (get_or s j []) (r - 1))) → ArePlanes q (map (λ v. after ws v (r - 1)) s)
    → ((s : List (List ℕ)) (k : List ℕ) → AreVectors s → IsVector k → ArePlanes q s → ArePlanes key (map (λ v. k) s)
    → ArePlanes t (map (λ v. block_round v k) s))
    → ArePlanes t (map (λ v. after ws v (r + 1 - 1)) s)
more_planes ws q t s key r le v k bytes hq made =
    let vs = states ws s (r - 1) v bytes in
    let same : r ≡ r + 1 - 1 = omega arith in
    subst (λ (m : ℕ). ArePlanes t (map (λ v. after ws v m) s)) same (more ws t s (r - 1) r (omega arith)
    (made (map (λ x. after ws x (r - 1)) s) (round_key ws r) vs k.bytes hq
    (key_beside ws (map (λ x. after ws x (r - 1)) s) key r vs.count k)))

pub ended_planes : (ws q t s key : List (List ℕ)) (n : ℕ) → n ≡ rounds ws - 1 → AreVectors s → ArePlanesOfKey ws (rounds ws) key
    → ((j : ℕ) → j < 8 → IsVector (after ws (get_or s j []) n)) → ArePlanes q (map (λ v. after ws v n) s)
    → ((s : List (List ℕ)) (k : List ℕ) → AreVectors s → IsVector k → ArePlanes q s → ArePlanes key (map (λ v. k) s)
    → ArePlanes t (map (λ v. block_last v k) s))
    → ArePlanes t (map (λ v. cipher ws v) s)
ended_planes ws q t s key n is v k bytes hq made =
    let vs = states ws s n v bytes in
    ended ws t s n is
    (made (map (λ x. after ws x n) s) (round_key ws (rounds ws)) vs k.bytes hq
    (key_beside ws (map (λ x. after ws x n) s) key (rounds ws) vs.count k))

-- ---- eight blocks

pub eight_vectors : (a b c d e f g h : List ℕ) → IsVector a → IsVector b → IsVector c → IsVector d → IsVector e → IsVector f → IsVector g
    → IsVector h → AreVectors (a ∷ b ∷ c ∷ d ∷ e ∷ f ∷ g ∷ h ∷ [])
eight_vectors a b c d e f g h pa pb pc pd pe pf pg ph = record {
  count = refl;
  each = eight (λ n. IsVector (get_or (a ∷ b ∷ c ∷ d ∷ e ∷ f ∷ g ∷ h ∷ []) n [])) pa pb pc pd pe pf pg ph;
}

pub held_told : (ws w q s : List (List ℕ)) (j : ℕ) (out : List ℕ) → AreVectors s → ((i : ℕ) → i < 8 → IsVector (cipher ws (get_or s i [])))
    → ArePlanes w q → ArePlanes q (map (λ v. cipher ws v) s) → j < 8 → out ≡ get_or w j [] → IsVector out → out ≡ cipher ws (get_or s j [])
held_told ws w q s j out v vectors hw hq lj same p = same ∙ told ws w q s j v vectors hw hq lj (subst IsVector same p)

-- ---- the planes of one key more

pub plane_keys_more : (ws : List (List ℕ)) (keys : List (List (List ℕ))) (r : ℕ) (key : List (List ℕ)) → length keys ≡ 15 → r < 15
    → ((k : ℕ) → k < r → ArePlanesOfKey ws k (get_or keys k [])) → ArePlanesOfKey ws r key
    → (k : ℕ) → k < r + 1 → ArePlanesOfKey ws k (get_or (set keys r key) k [])
plane_keys_more ws keys r key len lt known is k below =
    elim (cases_lt k r) [
      | inl less ↦
          let other : k ≢ r = omega arith in
          subst (λ (x : List (List ℕ)). ArePlanesOfKey ws k x) (sym (get_or-set_other keys r k key [] other)) (known k less)
      | inr more ↦
          let same : r ≡ k = omega arith in
          subst (λ (n : ℕ). ArePlanesOfKey ws n (get_or (set keys r key) n [])) same
          (subst (λ (x : List (List ℕ)). ArePlanesOfKey ws r x) (sym (get_or-set_same keys r key [] (omega arith))) is)
    ]
