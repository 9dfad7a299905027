-- Counts of channels along the list of connections.
use Rattle.std.proofs.Common.{◌≡◌, ℕ, ◌+◌, if◌then◌else◌, List, [], ◌∷◌, ◌++◌, Option, sym, arith}
use Rattle.spec_exchange.specs.Table.{is_at}
use Rattle.spec_exchange.specs.CheckSetup.{count_channels}

-- one connection more
pub count_end : (on : ℕ → Option ℕ) (x k : ℕ) (ks : List ℕ) → count_channels on (ks ++ k ∷ []) x
    ≡ count_channels on ks x + (if is_at x (on k) then 1 else 0)
unfolding count_channels
count_end on x k [] = by (if is_at x (on k) then 1 else 0)
  where
    by : (n : ℕ) → n + 0 ≡ 0 + n
    by n = omega arith
count_end on x k (j ∷ ks) = by (if is_at x (on j) then 1 else 0) _ _ (if is_at x (on k) then 1 else 0) (count_end on x k ks)
  where
    by : (a b c n : ℕ) → b ≡ c + n → a + b ≡ (a + c) + n
    by a b c n e = omega (arith, e)

pub one_more : (on : ℕ → Option ℕ) (x k : ℕ) (ks : List ℕ) (n r : ℕ) → n ≡ count_channels on ks x → r
    ≡ (if is_at x (on k) then 1 else 0) → n + r ≡ count_channels on (ks ++ k ∷ []) x
one_more on x k ks n r e h = rw (e, h) (sym (count_end on x k ks))
