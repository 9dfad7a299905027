-- A set of numbers as an ascending list.
use Rattle.std.proofs.Common.{◌≡◌, ℕ, ◌<◌, nat_lt, Bool, true, false, ◌||◌, List, [], ◌∷◌}
use Rattle.std.proofs.Common.{refl, sym, subst, ◌∙◌, arith}
use Rattle.std.proofs.lemmas.Bool.Decides.{nat_tests}
use Rattle.std.proofs.lemmas.Map.Keys.{below_from_sorted}
use Rattle.std.proofs.lemmas.Map.Lookups.{exact_unsigned}
use Rattle.std.proofs.lemmas.Map.Views.{any-filter_same}
use Rattle.std.specs.Prelude.{cond}
use Rattle.std.specs.BTreeMap.{is_at}
use Rattle.std.specs.Cmp.{Equal-is}
use Rattle.std.specs.List.{list_any, filter}
use Rattle.std.specs.List.Sorted.{IsStrictlySortedBy}
use Rattle.std.specs.Ordering.{nat_cmp, is_eq}
use Rattle.spec_exchange.specs.Table.{has}
use Rattle.law_server.specs.tables.Fits.{is_ascending}
use Rattle.law_server.proofs.tables.Logic.{both}
use Rattle.law_records.proofs.fold.Numbers.{here, later}

pub ascending_keys : (ks : List ℕ) → IsStrictlySortedBy nat_cmp ks → is_ascending ks ≡ true
unfolding is_ascending IsStrictlySortedBy
ascending_keys [] s = refl
ascending_keys (x ∷ []) s = refl
ascending_keys (x ∷ y ∷ ys) s =
    let l : x < y = below_from_sorted (x ∷ y ∷ ys) 0 1 0 s (omega arith) (omega arith) in
    let t : nat_lt x y ≡ true = grind (arith, nat_tests) in
    both (nat_lt x y) (is_ascending (y ∷ ys)) t (ascending_keys (y ∷ ys) s.1)

pub key_is : (f k : ℕ) → is_eq (nat_cmp f k) ≡ true → f ≡ k
key_is f k e = exact_unsigned f k ((Equal-is (nat_cmp f k)).0 e)

pub has_key : (ks : List ℕ) (f : ℕ) → list_any (is_at (nat_cmp f)) ks ≡ true → has f ks ≡ true
has_key [] f h = h
has_key (k ∷ ks) f h = by (is_eq (nat_cmp f k)) refl h (has_key ks f)
  where
    by : (b : Bool) → is_eq (nat_cmp f k) ≡ b → (b || list_any (is_at (nat_cmp f)) ks) ≡ true
        → (list_any (is_at (nat_cmp f)) ks ≡ true → has f ks ≡ true) → has f (k ∷ ks) ≡ true
    by true e i rest = subst (λ (z : ℕ). has z (k ∷ ks) ≡ true) (sym (key_is f k e)) (here k ks)
    by false e i rest = later f k ks (rest i)

-- a key that passes the test stays
pub key_stays : (p : ℕ → Bool) (f : ℕ) (ks : List ℕ) → p f ≡ true → list_any (is_at (nat_cmp f)) ks ≡ true
    → list_any (is_at (nat_cmp f)) (filter p ks) ≡ true
key_stays p f ks passes h =
    any-filter_same (is_at (nat_cmp f)) p true (λ k e. subst (λ (z : ℕ). p z ≡ true) (key_is f k e) passes) ks ∙ h

pub by_cond : (b v : Bool) → v ≡ true → cond b true v ≡ true
by_cond true v e = refl
by_cond false v e = e
