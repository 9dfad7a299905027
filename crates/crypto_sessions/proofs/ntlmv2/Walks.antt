-- A walk over pairs from the front: what the definitions say of all pairs, they say of those that are left.
use Rattle.std.proofs.Common.{◌≡◌, ℕ, zero, suc, ◌+◌, ◌-◌, ◌<◌, ◌≤◌, ◌==◌, nat_lt, true, false, List, length}
use Rattle.std.proofs.Common.{drop, length-drop, refl, arith, ◌∙◌, inl, inr, Some, None}
use Rattle.std.proofs.lemmas.Bool.Decides.{nat_tests}
use Rattle.std.proofs.lemmas.List.{drop_all}
use Rattle.spec_wire.specs.messages.Places.{number, bytes_at}
use Rattle.spec_crypto.specs.tokens.Pairs.{pair_size, pairs_break, pair_in, end_at}
use Rattle.crypto_sessions.specs.ntlmv2.Fronts.{PairStands, Breaks, PairEnds}

long : (b : List ℕ) → 4 ≤ length b → nat_lt (length b) 4 ≡ false
long b h = grind (arith, nat_tests)

short : (b : List ℕ) → length b < 4 → nat_lt (length b) 4 ≡ true
short b h = grind (arith, nat_tests)

other : (n k : ℕ) → ¬ (n ≡ k) → (n == k) ≡ false
other n k h = grind (arith, nat_tests)

fitting : (n k : ℕ) → k ≤ n → nat_lt n k ≡ false
fitting n k h = grind (arith, nat_tests)

passing : (n k : ℕ) → n < k → nat_lt n k ≡ true
passing n k h = grind (arith, nat_tests)

-- ---- the first break

break_on : (k at : ℕ) (b : List ℕ) → length b ≤ k → PairStands b → (j : ℕ) × (k ≡ j + 1) × (pairs_break k at b ≡ pairs_break
    j (at + pair_size b) (drop (pair_size b) b))
unfolding pairs_break
break_on zero at b low s = absurd (let t = s.told in omega arith)
break_on (suc j) at b low s = (
  j,
  omega arith,
  rw (
    long b s.told,
    other (number 2 b 0) 0 s.more,
    fitting (length b)
        (pair_size b) s.fits,
  ) refl,
)

break_here : (k at : ℕ) (b : List ℕ) → length b ≤ k → Breaks b → pairs_break k at b ≡ Some at
unfolding pairs_break
break_here zero at b low h = refl
break_here (suc j) at b low (inl h) = rw (short b h) refl
break_here (suc j) at b low (inr h) = rw (long b h.0, other (number 2 b 0) 0 h.1, passing (length b) (pair_size b) h.2) refl

break_none : (k at : ℕ) (b : List ℕ) → length b ≤ k → PairEnds b → pairs_break k at b ≡ None
unfolding pairs_break
break_none zero at b low h = absurd (let t = h.0 in omega arith)
break_none (suc j) at b low h = rw (long b h.0, h.1) refl

pub record IsChecked (at : ℕ) (bytes : List ℕ) (place : ℕ) (rest : List ℕ) : Type 0 where
  pub more : ℕ
  pub enough : length rest ≤ more
  pub same : pairs_break (length bytes) at bytes ≡ pairs_break more place rest

pub checked_at_start : (at : ℕ) (bytes : List ℕ) → IsChecked at bytes at bytes
checked_at_start at bytes = record { more = length bytes; enough = omega arith; same = refl }

pub checked_on : (at : ℕ) (bytes : List ℕ) (place : ℕ) (rest : List ℕ) → IsChecked at bytes place rest → PairStands rest →
    IsChecked at bytes (place + pair_size rest) (drop (pair_size rest) rest)
checked_on at bytes place rest c s =
    let step = break_on c.more place rest c.enough s in
    record {
      more = step.0;
      enough = (let a = step.1 in let b = c.enough in let d = length-drop (pair_size rest) rest in let f = s.fits in omega arith);
      same = c.same ∙ step.2;
    }

pub checked_break : (at : ℕ) (bytes : List ℕ) (place : ℕ) (rest : List ℕ) → IsChecked at bytes place rest → Breaks rest
    → pairs_break (length bytes) at bytes ≡ Some place
checked_break at bytes place rest c h = c.same ∙ break_here c.more place rest c.enough h

pub checked_end : (at : ℕ) (bytes : List ℕ) (place : ℕ) (rest : List ℕ) → IsChecked at bytes place rest → PairEnds rest →
    pairs_break (length bytes) at bytes ≡ None
checked_end at bytes place rest c h = c.same ∙ break_none c.more place rest c.enough h

-- ---- the value of an id

find_on : (k id : ℕ) (b : List ℕ) → length b ≤ k → PairStands b → ¬ (number 2 b 0 ≡ id) → (j : ℕ) × (k ≡ j + 1) × (pair_in k
    id b ≡ pair_in j id (drop (pair_size b) b))
unfolding pair_in
find_on zero id b low s differs = absurd (let t = s.told in omega arith)
find_on (suc j) id b low s differs = (
  j,
  omega arith,
  rw (
    long b s.told,
    other (number 2 b 0) 0 s.more,
    fitting (length
        b) (pair_size b) s.fits,
    other (number 2 b 0) id differs,
  ) refl,
)

find_here : (k id : ℕ) (b : List ℕ) → length b ≤ k → PairStands b → number 2 b 0 ≡ id → pair_in k id b ≡ Some (bytes_at (number 2 b 2) b 4)
unfolding pair_in
find_here zero id b low s e = absurd (let t = s.told in omega arith)
find_here (suc j) id b low s e =
    let same : (number 2 b 0 == id) ≡ true = grind (arith, nat_tests) in
    rw (long b s.told, other (number 2 b 0) 0 s.more, fitting (length b) (pair_size b) s.fits, same) refl

find_none : (k id : ℕ) (b : List ℕ) → length b ≤ k → Breaks b → pair_in k id b ≡ None
unfolding pair_in
find_none zero id b low h = refl
find_none (suc j) id b low (inl h) = rw (short b h) refl
find_none (suc j) id b low (inr h) = rw (long b h.0, other (number 2 b 0) 0 h.1, passing (length b) (pair_size b) h.2) refl

find_end : (k id : ℕ) (b : List ℕ) → length b ≤ k → PairEnds b → pair_in k id b ≡ None
unfolding pair_in
find_end zero id b low h = refl
find_end (suc j) id b low h = rw (long b h.0, h.1) refl

-- fewer than 44 bytes have no pairs behind them
pub no_pairs : (id : ℕ) (nt : List ℕ) → length nt < 44 → pair_in (length (drop 44 nt)) id (drop 44 nt) ≡ None
unfolding pair_in
no_pairs id nt h = let e = drop_all 44 nt (omega arith) in rw e refl

pub record IsSearched (id : ℕ) (bytes rest : List ℕ) : Type 0 where
  pub more : ℕ
  pub enough : length rest ≤ more
  pub same : pair_in (length bytes) id bytes ≡ pair_in more id rest

pub searched_at_start : (id : ℕ) (bytes : List ℕ) → IsSearched id bytes bytes
searched_at_start id bytes = record { more = length bytes; enough = omega arith; same = refl }

pub searched_on : (id : ℕ) (bytes rest : List ℕ) → IsSearched id bytes rest → PairStands rest → ¬ (number 2 rest 0 ≡ id) →
    IsSearched id bytes (drop (pair_size rest) rest)
searched_on id bytes rest c s differs =
    let step = find_on c.more id rest c.enough s differs in
    record {
      more = step.0;
      enough = (let a = step.1 in let b = c.enough in let d = length-drop (pair_size rest) rest in let f = s.fits in omega arith);
      same = c.same ∙ step.2;
    }

pub searched_found : (id : ℕ) (bytes rest : List ℕ) → IsSearched id bytes rest → PairStands rest → number 2 rest 0 ≡ id →
    pair_in (length bytes) id bytes ≡ Some (bytes_at (number 2 rest 2) rest 4)
searched_found id bytes rest c s e = c.same ∙ find_here c.more id rest c.enough s e

pub searched_break : (id : ℕ) (bytes rest : List ℕ) → IsSearched id bytes rest → Breaks rest → pair_in (length bytes) id bytes ≡ None
searched_break id bytes rest c h = c.same ∙ find_none c.more id rest c.enough h

pub searched_end : (id : ℕ) (bytes rest : List ℕ) → IsSearched id bytes rest → PairEnds rest → pair_in (length bytes) id bytes ≡ None
searched_end id bytes rest c h = c.same ∙ find_end c.more id rest c.enough h

-- ---- the bytes before the end pair

end_on : (k : ℕ) (b : List ℕ) → length b ≤ k → PairStands b → (j : ℕ) × (k ≡ j + 1) × (end_at k b ≡ pair_size b + end_at j
    (drop (pair_size b) b))
unfolding end_at
end_on zero b low s = absurd (let t = s.told in omega arith)
end_on (suc j) b low s = (j, omega arith, rw (long b s.told, other (number 2 b 0) 0 s.more, fitting (length b) (pair_size b) s.fits) refl)

end_broken : (k : ℕ) (b : List ℕ) → length b ≤ k → Breaks b → end_at k b ≡ 0
unfolding end_at
end_broken zero b low h = refl
end_broken (suc j) b low (inl h) = rw (short b h) refl
end_broken (suc j) b low (inr h) = rw (long b h.0, other (number 2 b 0) 0 h.1, passing (length b) (pair_size b) h.2) refl

end_here : (k : ℕ) (b : List ℕ) → length b ≤ k → PairEnds b → end_at k b ≡ 0
unfolding end_at
end_here zero b low h = refl
end_here (suc j) b low h = rw (long b h.0, h.1) refl

pub record IsMeasured (bytes rest : List ℕ) : Type 0 where
  pub more : ℕ
  pub enough : length rest ≤ more
  pub less : length rest ≤ length bytes
  pub same : end_at (length bytes) bytes + length rest ≡ length bytes + end_at more rest

pub measured_at_start : (bytes : List ℕ) → IsMeasured bytes bytes
measured_at_start bytes = record { more = length bytes; enough = omega arith; less = omega arith; same = omega arith }

pub measured_on : (bytes rest : List ℕ) → IsMeasured bytes rest → PairStands rest → IsMeasured bytes (drop (pair_size rest) rest)
measured_on bytes rest c s =
    let step = end_on c.more rest c.enough s in
    let d = length-drop (pair_size rest) rest in
    let f = s.fits in
    record {
      more = step.0;
      enough = (let a = step.1 in let b = c.enough in omega arith);
      less = (let b = c.less in omega arith);
      same = (let a = step.2 in let b = c.same in omega arith);
    }

pub measured_break : (bytes rest : List ℕ) → IsMeasured bytes rest → Breaks rest → length bytes - length rest ≡ end_at (length bytes) bytes
measured_break bytes rest c h = let e = end_broken c.more rest c.enough h in let b = c.same in let l = c.less in omega arith

pub measured_end : (bytes rest : List ℕ) → IsMeasured bytes rest → PairEnds rest → length bytes - length rest ≡ end_at (length bytes) bytes
measured_end bytes rest c h = let e = end_here c.more rest c.enough h in let b = c.same in let l = c.less in omega arith
