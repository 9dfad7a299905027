-- Two chains of one value over as many messages: the messages are the same, or two lists that were hashed have one hash.
use Rattle.std.proofs.Common.{◌≡◌, ℕ, ◌+◌, Bool, true, false, List, [], ◌∷◌, ◌++◌, ◌⊎◌, inl, inr, refl, arith, sym, ◌∙◌, ap, subst, length}
use Rattle.std.proofs.Common.{add-one, take, drop}
use Rattle.std.proofs.Math.Seq.{take-append_seam, drop-append_seam}
use Rattle.sha2.proofs.Facts512.{length-sha512}
use Rattle.spec_exchange.specs.Content.{same_bytes}
use Rattle.spec_exchange.proofs.Content.{same_bytes-true, same_bytes-refl}
use Rattle.spec_crypto.specs.sessions.Chain.{hash, chain_from, hashed_from, Collide}

hash_length : (m : List ℕ) → length (hash m) ≡ 64
unfolding hash
hash_length m = length-sha512 m

same_front : (a b m n : List ℕ) → length a ≡ length b → a ++ m ≡ b ++ n → a ≡ b
same_front a b m n len e =
    sym (take-append_seam a m) ∙ ap (λ t. take (length a) t) e ∙ ap (λ i. take i (b ++ n)) len ∙ take-append_seam b n

same_back : (a b m n : List ℕ) → length a ≡ length b → a ++ m ≡ b ++ n → m ≡ n
same_back a b m n len e =
    sym (drop-append_seam a m) ∙ ap (λ t. drop (length a) t) e ∙ ap (λ i. drop i (b ++ n)) len ∙ drop-append_seam b n

deeper : (x y : List ℕ) (xs ys : List (List ℕ)) → Collide xs ys → Collide (x ∷ xs) (y ∷ ys)
deeper x y xs ys c =
    record {
      i = c.i + 1;
      j = c.j + 1;
      x = c.x;
      y = c.y;
      first = rw (add-one) c.first;
      second = rw (add-one) c.second;
      other = c.other;
      same = c.same;
    }

pub compared : (c d : List ℕ) (s t : List (List ℕ)) → length c ≡ length d → length s ≡ length t → chain_from c s ≡ chain_from d t
    → ((c ≡ d) × (s ≡ t)) ⊎ Collide (hashed_from c s) (hashed_from d t)
compared c d [] [] len count e = inl (e, refl)
compared c d [] (n ∷ t) len count e = absurd (omega (arith, count))
compared c d (m ∷ s) [] len count e = absurd (omega (arith, count))
compared c d (m ∷ s) (n ∷ t) len count e =
    joined (compared (hash (c ++ m)) (hash (d ++ n)) s t (hash_length (c ++ m) ∙ sym (hash_length (d ++ n))) (omega (arith, count)) e)
  where
    tested : (b : Bool) → same_bytes (c ++ m) (d ++ n) ≡ b → hash (c ++ m) ≡ hash (d ++ n) → s ≡ t
        → ((c ≡ d) × (m ∷ s ≡ n ∷ t)) ⊎ Collide ((c ++ m) ∷ hashed_from (hash (c ++ m)) s) ((d ++ n) ∷ hashed_from (hash (d ++ n)) t)
    tested true is h rest =
        let q = same_bytes-true (c ++ m) (d ++ n) is in
        inl (same_front c d m n len q, ap (λ x. x ∷ s) (same_back c d m n len q) ∙ ap (λ xs. n ∷ xs) rest)
    tested false is h rest =
        inr (record {
          i = 0;
          j = 0;
          x = c ++ m;
          y = d ++ n;
          first = refl;
          second = refl;
          other = λ q. absurd (let r = same_bytes-refl (c ++ m) in let z : same_bytes (c ++ m) (c ++ m)
              ≡ false = subst (λ v. same_bytes (c ++ m) v ≡ false) (sym q) is in cc);
          same = h;
        })

    joined : ((hash (c ++ m) ≡ hash (d ++ n)) × (s ≡ t)) ⊎ Collide (hashed_from (hash (c ++ m)) s) (hashed_from (hash (d ++ n)) t)
        → ((c ≡ d) × (m ∷ s ≡ n ∷ t)) ⊎ Collide ((c ++ m) ∷ hashed_from (hash (c ++ m)) s) ((d ++ n) ∷ hashed_from (hash (d ++ n)) t)
    joined (inl q) = tested (same_bytes (c ++ m) (d ++ n)) refl q.0 q.1
    joined (inr q) = inr (deeper (c ++ m) (d ++ n) (hashed_from (hash (c ++ m)) s) (hashed_from (hash (d ++ n)) t) q)
