-- What counts say of a list of opens.
use Rattle.std.proofs.Common.{◌≡◌, ℕ, suc, ◌<◌, ◌^◌, ◌+◌, ◌≤◌, ◌==◌, nat_lt, Bool, true, false, not, ◌&&◌, ◌||◌, if◌then◌else◌, List}
use Rattle.std.proofs.Common.{[], ◌∷◌, length, refl, sym, ap, ◌∙◌, arith}
use Rattle.std.specs.Prelude.{Option, Some, None}
use Rattle.std.proofs.lemmas.Bool.Decides.{nat_tests}
use Rattle.spec_exchange.specs.Commands.{has_bit}
use Rattle.spec_exchange.specs.Opens.{is_shared, reads, writes, deletes}
use Rattle.store_opens.specs.share_modes.Sharing.{admit_all, count_of, sharing_lacks, least_of, least_both}
use Rattle.store_opens.specs.declared.share_modes.lists.Open.{Open}

one_or_none : (b : Bool) (n m : ℕ) → n ≤ m → (if b then 1 else 0) + n ≤ suc m
one_or_none true n m l = omega (arith, l)
one_or_none false n m l = omega (arith, l)

-- no more are counted than there are
pub count_fits : (p : Open → Bool) (os : List Open) → count_of p os ≤ length os
count_fits p [] = omega arith
count_fits p (o ∷ os) = one_or_none (p o) (count_of p os) (length os) (count_fits p os)

all : (Open → Bool) → List Open → Bool
all p [] = true
all p (o ∷ os) = p o && all p os

not_not : (b : Bool) → not (not b) ≡ b
not_not true = refl
not_not false = refl

admit_is : (os : List Open) (a s : ℕ) → admit_all os a s ≡ all (λ o. is_shared a o.share && is_shared o.access s) os
unfolding all
admit_is [] a s = refl
admit_is (o ∷ os) a s = rw (not_not (is_shared a o.share && is_shared o.access s), admit_is os a s) refl

swap : (a b x y : Bool) → ((a && b) && (x && y)) ≡ ((a && x) && (b && y))
swap true true x y = refl
swap true false true y = refl
swap true false false y = refl
swap false b x y = refl

all_both : (p q : Open → Bool) (os : List Open) → all (λ o. p o && q o) os ≡ (all p os && all q os)
unfolding all
all_both p q [] = refl
all_both p q (o ∷ os) = rw (all_both p q os) (swap (p o) (q o) (all p os) (all q os))

all_true : (os : List Open) → all (λ o. true) os ≡ true
unfolding all
all_true [] = refl
all_true (o ∷ os) = all_true os

-- all share it, or the new one doesn't do it
none_lacks : (os : List Open) (bit : ℕ) → all (λ o. has_bit o.share bit) os ≡ not (nat_lt 0 (count_of (sharing_lacks bit) os))
unfolding all
none_lacks [] bit = refl
none_lacks (o ∷ os) bit = by (has_bit o.share bit) (all (λ o. has_bit o.share bit) os) (count_of (sharing_lacks bit) os) (none_lacks os bit)
  where
    by : (b r : Bool) (n : ℕ) → r ≡ not (nat_lt 0 n) → (b && r) ≡ not (nat_lt 0 ((if not b then 1 else 0) + n))
    by true r n e = grind (arith, nat_tests)
    by false r n e = grind (arith, nat_tests)

lets : (does : Bool) (os : List Open) (bit : ℕ) → all (λ o. not does || has_bit o.share bit) os ≡ not
    (does && nat_lt 0 (count_of (sharing_lacks bit) os))
lets true os bit = none_lacks os bit
lets false os bit = all_true os

none_does : (p : Open → Bool) (os : List Open) → all (λ o. not (p o)) os ≡ (count_of p os == 0)
unfolding all
none_does p [] = refl
none_does p (o ∷ os) = by (p o) (all (λ o. not (p o)) os) (count_of p os) (none_does p os)
  where
    by : (b r : Bool) (n : ℕ) → r ≡ (n == 0) → (not b && r) ≡ ((if b then 1 else 0) + n == 0)
    by true r n e = grind (arith, nat_tests)
    by false r n e = grind (arith, nat_tests)

or_true : (b : Bool) → (b || true) ≡ true
or_true true = refl
or_true false = refl

or_false : (b : Bool) → (b || false) ≡ b
or_false true = refl
or_false false = refl

lets_them : (p : Open → Bool) (shared : Bool) (os : List Open) → all (λ o. not (p o) || shared) os ≡ (shared || (count_of p os == 0))
unfolding all
lets_them p true [] = refl
lets_them p true (o ∷ os) = rw (or_true (not (p o))) (lets_them p true os)
lets_them p false [] = refl
lets_them p false (o ∷ os) = rw (or_false (not (p o)), lets_them p false os, sym (none_does p os)) (none_does p (o ∷ os))

pub admit_by_counts : (os : List Open) (a s : ℕ) → admit_all os a s
    ≡ ((not (reads a && nat_lt 0 (count_of (sharing_lacks 0x1) os)) &&
    (not (writes a && nat_lt 0 (count_of (sharing_lacks 0x2) os)) && not (deletes a && nat_lt 0 (count_of (sharing_lacks 0x4) os))))
    && ((has_bit s 0x1 || (count_of (λ o. reads o.access) os == 0)) &&
    ((has_bit s 0x2 || (count_of (λ o. writes o.access) os == 0)) && (has_bit s 0x4 || (count_of (λ o. deletes o.access) os == 0)))))
unfolding is_shared
admit_by_counts os a s =
    admit_is os a s
    ∙ all_both (λ o. is_shared a o.share) (λ o. is_shared o.access s) os
    ∙ rw (
      all_both (λ o. not (reads a) || has_bit o.share 0x1) (λ o. (not (writes a) || has_bit o.share 0x2) &&
          (not (deletes a) || has_bit o.share 0x4)) os,
      all_both (λ o. not (writes a) || has_bit o.share 0x2) (λ o. not (deletes a) || has_bit o.share 0x4) os,
      all_both (λ o. not (reads o.access) || has_bit s 0x1) (λ o. (not (writes o.access) || has_bit s 0x2) &&
          (not (deletes o.access) || has_bit s 0x4)) os,
      all_both (λ o. not (writes o.access) || has_bit s 0x2) (λ o. not (deletes o.access) || has_bit s 0x4) os,
      lets (reads a) os 0x1,
      lets (writes a) os 0x2,
      lets (deletes a) os 0x4,
      lets_them (λ o. reads o.access) (has_bit s 0x1) os,
      lets_them (λ o. writes o.access) (has_bit s 0x2) os,
      lets_them (λ o. deletes o.access) (has_bit s 0x4) os,
    ) refl

-- ---- the least id

pub least_step : (id : ℕ) (so_far rest : Option ℕ) → least_both so_far (Some (least_of id rest)) ≡ least_both (Some (least_of id so_far))
    rest
least_step id None rest = refl
least_step id (Some n) None = ap Some (grind arith)
least_step id (Some n) (Some m) = ap Some (grind arith)

-- ---- one more, one fewer

pub added : (p : Open → Bool) (one : Open) (os : List Open) (counts : Bool) (count result : ℕ) → counts ≡ p one → count_of p os ≡ count
    → (count + 1 < 2 ^ 64 → result ≡ (if counts then 1 else 0) + count) → length os + 1 < 2 ^ 64 → count_of p (one ∷ os) ≡ result
added p one os counts count result e n h l =
    let f = count_fits p os in
    let r : result ≡ (if counts then 1 else 0) + count = h (omega (arith, n, f, l)) in
    rw (sym e, n) (sym r)

pub removed : (p : Open → Bool) (one : Open) (os : List Open) (counts : Bool) (count result : ℕ) → counts ≡ p one
    → count_of p (one ∷ os) ≡ count
    → ((n : ℕ) → (if counts then 1 else 0) + n ≡ count → result ≡ n) → count_of p os ≡ result
removed p one os counts count result e n h = sym (h (count_of p os) (rw e n))

regroup : (a b c d e f : Bool) → (((a && b) && c) && ((d && e) && f)) ≡ ((a && (b && c)) && (d && (e && f)))
regroup true true c true true f = refl
regroup true true c true false f = refl
regroup true true c false e f = refl
regroup true false c d e f = refl
regroup false b c d e f = refl

pub admits_by : (os : List Open) (a s : ℕ) (x1 x2 x3 x4 x5 x6 : Bool)
    → x1 ≡ not (reads a && nat_lt 0 (count_of (sharing_lacks 0x1) os)) → x2 ≡ not (writes a && nat_lt 0 (count_of (sharing_lacks 0x2) os))
    → x3 ≡ not (deletes a && nat_lt 0 (count_of (sharing_lacks 0x4) os)) → x4 ≡ (has_bit s 0x1 || (count_of (λ o. reads o.access) os == 0))
    → x5 ≡ (has_bit s 0x2 || (count_of (λ o. writes o.access) os == 0)) → x6 ≡ (has_bit s 0x4 || (count_of (λ o. deletes o.access) os == 0))
    → (((x1 && x2) && x3) && ((x4 && x5) && x6)) ≡ admit_all os a s
admits_by os a s x1 x2 x3 x4 x5 x6 e1 e2 e3 e4 e5 e6 = regroup x1 x2 x3 x4 x5 x6 ∙ rw (e1, e2, e3, e4, e5, e6)
    (sym (admit_by_counts os a s))
