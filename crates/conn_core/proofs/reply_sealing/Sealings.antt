-- Frames that are done, and one more.
use Rattle.std.proofs.Common.{◌≡◌, ℕ, suc, ◌+◌, false, List, [], ◌∷◌, ◌++◌, append_assoc, length, refl, sym, ap, ◌∙◌, arith}
use Rattle.spec_crypto.specs.declared.sessions.material.Keys.{Keys}
use Rattle.spec_crypto.specs.sessions.Sealing.{sealed}
use Rattle.spec_world.specs.Ends.{nonce_at}
use Rattle.spec_world.specs.Answering.{sealed_each}
use Rattle.conn_core.specs.reply_sealing.Saying.{framed, all_framed}

pub framed_more : (ms : List (List ℕ)) (m : List ℕ) → all_framed (ms ++ m ∷ []) ≡ all_framed ms ++ framed m
unfolding all_framed
framed_more [] m = sym (nil_behind (framed m))
  where
    nil_behind : (xs : List ℕ) → xs ≡ xs ++ []
    nil_behind [] = refl
    nil_behind (x ∷ xs) = ap (λ (l : List ℕ). x ∷ l) (nil_behind xs)
framed_more (x ∷ xs) m = ap (λ (l : List ℕ). framed x ++ l) (framed_more xs m) ∙ sym (append_assoc (framed x) (all_framed xs) (framed m))

pub sealed_more : (keys : Keys) (channel counter : ℕ) (ts : List (List ℕ)) (t : List ℕ)
    → sealed_each keys channel counter (ts ++ t ∷ [])
    ≡ sealed_each keys channel counter ts ++ sealed keys false (nonce_at channel (counter + length ts)) t ∷ []
unfolding sealed_each
sealed_more keys channel counter [] t =
    let same : counter + 0 ≡ counter = omega arith in
    ap (λ (n : ℕ). sealed keys false (nonce_at channel n) t ∷ []) (sym same)
sealed_more keys channel counter (x ∷ xs) t =
    let same : counter + 1 + length xs ≡ counter + suc (length xs) = omega arith in
    ap (λ (l : List (List ℕ)). sealed keys false (nonce_at channel counter) x ∷ l)
    (sealed_more keys channel (counter + 1) xs t
    ∙ ap (λ (n : ℕ). sealed_each keys channel (counter + 1) xs ++ sealed keys false (nonce_at channel n) t ∷ []) same)
