-- Which records fit is told by the journal's bytes and their limit alone, and more records fit less.
use Rattle.std.proofs.Common.{◌≡◌, ◌≤◌, ℕ, ◌+◌, nat_le, false, List, [], ◌∷◌, ◌++◌, refl, ◌∙◌, ap, arith}
use Rattle.spec_exchange.specs.Records.{entry_bytes, fits, records_size}
use Rattle.spec_exchange.specs.State.{Record, Server}

pub same_fits : (s d : Server) (rs : List Record) → d.journal ≡ s.journal → d.limit ≡ s.limit → fits d rs ≡ fits s rs
unfolding fits
same_fits s d [] e h = refl
same_fits s d (r ∷ rs) e h = ap (λ (n : ℕ). nat_le (n + entry_bytes (r ∷ rs)) d.limit) e
    ∙ ap (λ (n : ℕ). nat_le (s.journal + entry_bytes (r ∷ rs)) n) h

size_both : (rs qs : List Record) → records_size (rs ++ qs) ≡ records_size rs + records_size qs
unfolding records_size
size_both [] qs = omega arith
size_both (r ∷ rs) qs = let k = size_both rs qs in omega (arith, k)

above : (a b n : ℕ) → a ≤ b → nat_le a n ≡ false → nat_le b n ≡ false
above a b n h e = grind arith

-- where records don't fit, neither do these and more
pub unfit_both : (s : Server) (rs qs : List Record) → fits s rs ≡ false → fits s (rs ++ qs) ≡ false
unfolding fits entry_bytes
unfit_both s [] qs e = absurd (cc)
unfit_both s (r ∷ rs) qs e =
    let k = size_both (r ∷ rs) qs in
    above (s.journal + (5 + records_size (r ∷ rs))) (s.journal + (5 + records_size (r ∷ (rs ++ qs)))) s.limit (omega (arith, k)) e
